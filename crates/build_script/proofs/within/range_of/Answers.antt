use Rattle.std.proofs.Common.{arith}
use Rattle.std.proofs.lemmas.Int.{ints}
use Rattle.build_script.proofs.RangeLemmas.{made_range}
use Rattle.build_script.proofs.within.range_of.Goals as goal

pub returns-clause-range : goal.returns-clause-range
returns-clause-range c =
    made_range c.args.long c.args.low c.args.high c.requires.low_least c.requires.low_greatest c.requires.high_least c.requires.high_greatest
    (omega (arith, ints, c.if-high-low.false)) (omega (arith, ints, c.if-high-low-2.false, c.turn_count.ensures))
