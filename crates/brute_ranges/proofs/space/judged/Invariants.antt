use Rattle.std.proofs.Common.{take}
use Rattle.std.specs.Prelude.{All}
use Rattle.brute_ranges.specs.Tics.{IsSound}
use Rattle.brute_ranges.proofs.space.judged.Given as goal

abbrev pub invariant-loop-i : goal.invariant-loop-i
invariant-loop-i l = All (IsSound l.long) (take l.i l.tics)
