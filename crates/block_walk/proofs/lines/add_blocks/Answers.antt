use Rattle.std.proofs.Common.{◌∷◌, []}
use Rattle.block_walk.specs.Steps.{itself}
use Rattle.block_walk.proofs.Fresh.{itself_kept}
use Rattle.block_walk.proofs.Walks.{on_blocks_step}
use Rattle.block_walk.proofs.lines.add_blocks.Goals as goal

pub loop-block-preserved : goal.loop-block-preserved
loop-block-preserved c = record {
  on =
      on_blocks_step itself itself_kept c.args.level.now c.loop-block.walked c.add_block.new.walked c.args.met.now c.loop-block.met c.add_block.new.met c.args.out.now.items c.loop-block.out.items c.add_block.new.out.items
      c.args.blocks (c.in-Some.block ∷ []) c.next.new.self (rw c.in-Some.ensures.steps at c.loop-block.invariant.on) c.in_ok-add_block.ensures.lines;
  passed = c.in_ok-add_block.ensures.passed;
}
