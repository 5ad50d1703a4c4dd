use Rattle.std.proofs.Common.{◌≡◌, take}
use Rattle.brute_ranges.specs.Space.{sequence_at}
use Rattle.brute_ranges.proofs.space.Space.sequence.Given as goal

abbrev pub invariant-loop-i : goal.invariant-loop-i
invariant-loop-i l = l.tics.items ≡ take l.i (sequence_at l.self l.k)
