use Rattle.std.proofs.Common.{sym, ◌∙◌, arith, rules}
use Rattle.block_walk.specs.Visits.{visited}
use Rattle.block_walk.specs.Traces.{crossing_of, crossed}
use Rattle.block_walk.proofs.Fresh.{filter_map_kept}
use Rattle.block_walk.proofs.Walks.{on_blocks_end, no_visits, visit_step, visit_last, visit_many}
use Rattle.block_walk.proofs.traces.cross_visited.Goals as goal

pub returns-in_err-cross_block-clause-many : goal.returns-in_err-cross_block-clause-many
returns-in_err-cross_block-clause-many c = λ is.
    let l = c.args.level.now in
    let way = c.args.way.now in
    visit_many (crossed l way) (filter_map_kept (crossing_of l way)) l c.loop-visit.walked c.args.met.now c.loop-visit.met c.args.out.now.items c.loop-visit.out.items (visited 64 c.args.begin) c.loop-visit.walk c.loop-visit._visit (omega arith) c.loop-visit.invariant.on
    128 (c.in_err-cross_block.ensures.many (search rules))

pub returns-then-is_at_end-clause-pairs : goal.returns-then-is_at_end-clause-pairs
returns-then-is_at_end-clause-pairs c =
    let l = c.args.level.now in
    let way = c.args.way.now in
    visit_last (crossed l way) (filter_map_kept (crossing_of l way)) l c.loop-visit.walked c.args.met.now c.loop-visit.met c.args.out.now.items c.loop-visit.out.items (visited 64 c.args.begin) c.loop-visit.walk c.loop-visit._visit (omega arith) c.loop-visit.invariant.on
    c.cross_block.new.walked c.cross_block.new.met c.cross_block.new.out.items c.in_ok-cross_block.ensures.pairs (sym c.is_at_end.ensures ∙ c.if-is_at_end.true)

pub loop-visit-preserved : goal.loop-visit-preserved
loop-visit-preserved c =
    let l = c.args.level.now in
    let way = c.args.way.now in
    record {
      on = rw c.next-walk.ensures (visit_step (crossed l way) (filter_map_kept (crossing_of l way)) l c.loop-visit.walked c.args.met.now c.loop-visit.met c.args.out.now.items c.loop-visit.out.items (visited 64 c.args.begin) c.loop-visit.walk c.loop-visit._visit (omega arith) c.loop-visit.invariant.on
          c.cross_block.new.walked c.cross_block.new.met c.cross_block.new.out.items c.in_ok-cross_block.ensures.pairs (sym c.is_at_end.ensures ∙ c.if-is_at_end.false));
      few = c.in_ok-cross_block.ensures.few;
    }

pub returns-clause-pairs : goal.returns-clause-pairs
returns-clause-pairs c =
    let l = c.args.level.now in
    let way = c.args.way.now in
    on_blocks_end (crossed l way) (filter_map_kept (crossing_of l way)) l c.loop-visit.walked c.args.met.now c.loop-visit.met c.args.out.now.items c.loop-visit.out.items (visited 64 c.args.begin) _ c.loop-visit.invariant.on
    (no_visits c.loop-visit._visit c.loop-visit.walk (omega arith))
