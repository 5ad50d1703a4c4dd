use Rattle.brute_ranges.proofs.Sequences.{too_many_before}
use Rattle.brute_ranges.proofs.space.wheels_of.Goals as goal

pub returns-then-radix-count-clause-fault : goal.returns-then-radix-count-clause-fault
returns-then-radix-count-clause-fault c =
    (c.requires.deep, c.requires.sound, too_many_before c.args.long c.args.tics.now c.loop-left.left c.tic_count-radix.result c.loop-left.count c.loop-left.wheels.items _ c.requires.sound c.loop-left.invariant c.loop-left-test.true (c.tic_count-radix.ensures.count c.args.long) c.if-radix-count.true)
