use Rattle.std.proofs.Common.{rules}
use Rattle.block_walk.specs.Visits.{visited}
use Rattle.block_walk.proofs.Crossings.{crossed_near, crossed_there, crossed_many}
use Rattle.block_walk.proofs.traces.collect.Goals as goal

pub returns-in_err-cross_visited-clause-many : goal.returns-in_err-cross_visited-clause-many
returns-in_err-cross_visited-clause-many c = λ is.
    let none = c.clear.ensures.items in
    crossed_many c.args.level.now c.args.way.now c.args.met.now (visited 64 c.args.walk) c.requires.clear (rw none at (c.in_err-cross_visited.ensures.many (search rules)))

pub returns-clause-pairs : goal.returns-clause-pairs
returns-clause-pairs c =
    crossed_near c.args.level.now c.args.way.now c.args.met.now (visited 64 c.args.walk) c.requires.clear c.cross_visited.new.walked c.cross_visited.new.met c.cross_visited.new.out.items (rw c.clear.ensures.items at c.in_ok-cross_visited.ensures.pairs)

pub returns-clause-there : goal.returns-clause-there
returns-clause-there c =
    crossed_there c.args.level.now c.args.way.now c.args.met.now (visited 64 c.args.walk) c.requires.clear c.cross_visited.new.walked c.cross_visited.new.met c.cross_visited.new.out.items (rw c.clear.ensures.items at c.in_ok-cross_visited.ensures.pairs)
