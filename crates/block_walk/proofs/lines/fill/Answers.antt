use Rattle.map_geometry.specs.Blocks.{blocks_in, cut_to_grid}
use Rattle.block_walk.proofs.Walks.{meets_near, meets_there}
use Rattle.block_walk.proofs.lines.fill.Goals as goal

pub returns-clause-lines : goal.returns-clause-lines
returns-clause-lines c =
    let l = c.args.level.now in
    meets_near l c.add_blocks.new.walked c.args.met.now c.add_blocks.new.met c.add_blocks.new.out.items c.args.blocks.now c.requires.clear (rw (c.clear.ensures.items, c.blocks_in.ensures.blocks) at c.in_ok-add_blocks.ensures)

pub returns-clause-there : goal.returns-clause-there
returns-clause-there c =
    let l = c.args.level.now in
    meets_there l c.add_blocks.new.walked c.args.met.now c.add_blocks.new.met c.add_blocks.new.out.items (blocks_in (cut_to_grid l.width l.height c.args.blocks.now)) (rw (c.clear.ensures.items, c.blocks_in.ensures.blocks) at c.in_ok-add_blocks.ensures)
