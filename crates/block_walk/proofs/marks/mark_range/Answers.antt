use Rattle.std.proofs.Common.{arith}
use Rattle.block_walk.proofs.Passed.{range_end}
use Rattle.block_walk.proofs.marks.mark_range.Goals as goal

pub returns : goal.returns
returns c = range_end c.args.marks.now c.loop-at.marks c.args.from c.loop-at.at c.args.to (λ more. omega (arith, c.loop-at.invariant.to, more)) c.loop-at.invariant.only
