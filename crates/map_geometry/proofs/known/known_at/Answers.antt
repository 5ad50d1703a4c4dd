use Rattle.std.proofs.Common.{rules, w32, pos}
use Rattle.std.proofs.lemmas.Int.{to_z-of_z}
use Rattle.std.proofs.lemmas.List.Sorted.{answers_always}
use Rattle.map_geometry.specs.declared.known.Known.{Known}
use Rattle.map_geometry.proofs.Told.{same_place}
use Rattle.map_geometry.proofs.known.known_at.Goals as goal

abbrev no_place : Known
no_place = record { x = pos 0; y = pos 0; sector = 0 }

pub returns-in-Ok-clause-x : goal.returns-in-Ok-clause-x
returns-in-Ok-clause-x c =
    let x = to_z-of_z w32 c.args.x c.ranges.x in
    let y = to_z-of_z w32 c.args.y c.ranges.y in
    let by_place = c.in-Ok.ensures.position (λ place. (place.x, place.y)) (answers_always _ _ _ (λ f a r g called. search rules)) in
    (same_place c.args.known.now c.in-Ok.i c.args.x c.args.y no_place (rw (x, y) at by_place no_place)).0

pub returns-in-Ok-clause-y : goal.returns-in-Ok-clause-y
returns-in-Ok-clause-y c =
    let x = to_z-of_z w32 c.args.x c.ranges.x in
    let y = to_z-of_z w32 c.args.y c.ranges.y in
    let by_place = c.in-Ok.ensures.position (λ place. (place.x, place.y)) (answers_always _ _ _ (λ f a r g called. search rules)) in
    (same_place c.args.known.now c.in-Ok.i c.args.x c.args.y no_place (rw (x, y) at by_place no_place)).1
