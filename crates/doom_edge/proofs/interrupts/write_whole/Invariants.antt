-- what is left grows less
use Rattle.std.proofs.Common.{length}
use Rattle.doom_edge.proofs.interrupts.write_whole.Given as goal

abbrev pub decreases-loop-rest : goal.decreases-loop-rest
decreases-loop-rest g l = length l.rest
