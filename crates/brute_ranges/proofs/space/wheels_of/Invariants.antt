use Rattle.brute_ranges.proofs.Sequences.{BuiltFrom}
use Rattle.brute_ranges.proofs.space.wheels_of.Given as goal

abbrev pub invariant-loop-left : goal.invariant-loop-left
invariant-loop-left l = BuiltFrom l.long l.tics l.left l.wheels.items l.count

abbrev pub decreases-loop-left : goal.decreases-loop-left
decreases-loop-left l = l.left
