use Rattle.std.proofs.Common.{◌≡◌, ◌==◌, false, ◌∙◌, rules, w32}
use Rattle.std.proofs.lemmas.Int.{to_z-of_z}
use Rattle.cow_world.specs.Flat.{parts}
use Rattle.line_specials.proofs.Arrivals.{stands_there}
use Rattle.line_specials.proofs.teleports.is_in_the_way.Goals as goal

pub returns : goal.returns
returns c =
    let apart : (c.args.thing == (parts c.args.world.now).player.thing) ≡ false = search (rules, c.if-thing-player.false, c.player.ensures.player) in
    let stands = rw (to_z-of_z w32 c.args.x c.ranges.x, to_z-of_z w32 c.args.y c.ranges.y) at c.stands_in.ensures in
    stands ∙ stands_there c.args.tables.now c.args.world.now c.args.x c.args.y c.args.thing _ _ apart c.shape.ensures c.thing.ensures
