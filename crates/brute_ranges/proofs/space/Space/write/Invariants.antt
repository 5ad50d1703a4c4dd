use Rattle.std.proofs.Common.{◌≡◌, drop}
use lib.Seq.{paste}
use Rattle.brute_ranges.specs.Space.{sequence_at}
use Rattle.brute_ranges.proofs.space.Space.write.Given as goal

abbrev pub invariant-loop-n : goal.invariant-loop-n
invariant-loop-n l = l.tics ≡ paste l.fn.tics l.from (drop l.from (sequence_at l.self l.k)) l.n
