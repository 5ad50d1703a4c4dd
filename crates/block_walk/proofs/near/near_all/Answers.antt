use Rattle.std.proofs.Common.{sym, ap, ◌∙◌}
use Rattle.block_walk.specs.Near.{near_all}
use Rattle.block_walk.proofs.Joined.{near_all_cut, near_all_there}
use Rattle.block_walk.proofs.near.near_all.Goals as goal

pub returns-clause-lines : goal.returns-clause-lines
returns-clause-lines c = ap (near_all c.args.level.now) c.blocks_in.ensures.blocks ∙ sym (near_all_cut c.args.level.now c.args.blocks.now)

pub returns-clause-there : goal.returns-clause-there
returns-clause-there c = near_all_there c.args.level.now c.blocks_in.ensures.there c.blocks_in.result
