use Rattle.std.proofs.Common.{◌∙◌}
use Rattle.brute_ranges.proofs.Same.{made_is}
use Rattle.brute_ranges.proofs.ranges.made.Goals as goal

pub returns : goal.returns
returns c =
    c.of_numbers.ensures
    ∙ made_is c.args.long c.args.forward c.args.side c.args.turn c.args.uses c.turn_of.result c.buttons_of.result c.ranges.forward c.ranges.side c.ranges.turn c.ranges.uses
    c.requires.forward c.requires.side c.turn_of.ensures.turn c.buttons_of.ensures
