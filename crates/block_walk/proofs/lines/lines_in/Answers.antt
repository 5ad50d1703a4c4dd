use Rattle.block_walk.proofs.Bits.{zeros_clear}
use Rattle.block_walk.proofs.lines.lines_in.Goals as goal

pub fill_by_size-requires-clause-clear : goal.fill_by_size-requires-clause-clear
fill_by_size-requires-clause-clear c = zeros_clear 64

pub fill_by_size-requires-then-lines-le-MANY_MARKS-clause-clear : goal.fill_by_size-requires-then-lines-le-MANY_MARKS-clause-clear
fill_by_size-requires-then-lines-le-MANY_MARKS-clause-clear c = zeros_clear 256

pub fill_by_size-requires-else-lines-le-MANY_MARKS-clause-clear : goal.fill_by_size-requires-else-lines-le-MANY_MARKS-clause-clear
fill_by_size-requires-else-lines-le-MANY_MARKS-clause-clear c = zeros_clear 1024
