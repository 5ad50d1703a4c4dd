use Rattle.block_walk.proofs.Bits.{zeros_clear}
use Rattle.block_walk.proofs.lines.fill_by_size.Goals as goal

pub fill-requires-clause-passed : goal.fill-requires-clause-passed
fill-requires-clause-passed c = zeros_clear 0

pub fill-requires-then-words-le-FEW_MARKS-clause-passed : goal.fill-requires-then-words-le-FEW_MARKS-clause-passed
fill-requires-then-words-le-FEW_MARKS-clause-passed c = zeros_clear 64

pub fill-requires-then-words-le-MANY_MARKS-clause-passed : goal.fill-requires-then-words-le-MANY_MARKS-clause-passed
fill-requires-then-words-le-MANY_MARKS-clause-passed c = zeros_clear 256

pub fill-requires-else-words-le-MANY_MARKS-clause-passed : goal.fill-requires-else-words-le-MANY_MARKS-clause-passed
fill-requires-else-words-le-MANY_MARKS-clause-passed c = zeros_clear 1024
