use Rattle.block_walk.specs.Steps.{itself, ArePassed}
use Rattle.block_walk.proofs.Walks.{IsOnBlocks}
use Rattle.block_walk.proofs.lines.add_blocks.Given as goal

abbrev pub invariant-loop-block : goal.invariant-loop-block
invariant-loop-block l = record {
  on : IsOnBlocks itself l.level l.walked l.initial.met l.met l.initial.out.items l.out.items l.fn.blocks l.block-iterator;
  passed : ArePassed l.level l.met l.passed;
}
