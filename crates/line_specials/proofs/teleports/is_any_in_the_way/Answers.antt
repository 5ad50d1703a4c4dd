use Rattle.std.proofs.Common.{◌≡◌, true, sym, ◌∙◌, rules, w32, to_z, of_z}
use Rattle.std.specs.List.{list_any}
use Rattle.std.proofs.lemmas.Int.{to_z-of_z}
use Rattle.line_specials.specs.Teleports.{is_in_the_way}
use Rattle.line_specials.proofs.Arrivals.{any_at}
use Rattle.line_specials.proofs.teleports.is_any_in_the_way.Goals as goal

pub returns-then-is_in_the_way : goal.returns-then-is_in_the_way
returns-then-is_in_the_way c =
    let one : true ≡ list_any (is_in_the_way c.args.tables.now c.args.world.now (to_z w32 (of_z w32 c.args.x)) (to_z w32 (of_z w32 c.args.y))) c.args.near.now =
    sym (any_at (is_in_the_way c.args.tables.now c.args.world.now (to_z w32 (of_z w32 c.args.x)) (to_z w32 (of_z w32 c.args.y))) c.args.near.now c.loop-thing.thing-index (search rules) (sym c.is_in_the_way.ensures ∙ c.if-is_in_the_way.true))
    ∙ c.loop-thing.invariant in
    rw (to_z-of_z w32 c.args.x c.ranges.x, to_z-of_z w32 c.args.y c.ranges.y) at one
