use Rattle.std.proofs.Common.{length, ◌-◌}
use Rattle.lmp_codec.proofs.Progress.{ReadSoFar}
use Rattle.lmp_codec.proofs.read.tics_of.Given as goal

abbrev pub invariant-loop-at : goal.invariant-loop-at
invariant-loop-at l = ReadSoFar l.text l.header l.tics.items l.at

abbrev pub decreases-loop-at : goal.decreases-loop-at
decreases-loop-at l = length l.text - l.at
