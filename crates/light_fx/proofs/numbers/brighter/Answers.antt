use Rattle.std.proofs.Common.{w16}
use Rattle.std.proofs.lemmas.Int.{wrapping_add_is}
use Rattle.light_fx.proofs.numbers.brighter.Goals as goal

pub returns : goal.returns
returns c = wrapping_add_is w16 c.args.light c.args.by c.ranges.light c.ranges.by
