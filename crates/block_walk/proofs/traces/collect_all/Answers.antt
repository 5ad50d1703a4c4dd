use Rattle.block_walk.proofs.Bits.{zeros_clear}
use Rattle.block_walk.proofs.traces.collect_all.Goals as goal

pub collect-requires-clause-clear : goal.collect-requires-clause-clear
collect-requires-clause-clear c = zeros_clear 64

pub collect-requires-then-lines-le-MANY_MARKS-clause-clear : goal.collect-requires-then-lines-le-MANY_MARKS-clause-clear
collect-requires-then-lines-le-MANY_MARKS-clause-clear c = zeros_clear 256

pub collect-requires-else-lines-le-MANY_MARKS-clause-clear : goal.collect-requires-else-lines-le-MANY_MARKS-clause-clear
collect-requires-else-lines-le-MANY_MARKS-clause-clear c = zeros_clear 1024
