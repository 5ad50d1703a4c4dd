use Rattle.std.proofs.Common.{◌<◌, ◌≡◌, length, arith, rules}
use Rattle.block_walk.specs.Traces.{crossing_of, crossed}
use Rattle.block_walk.proofs.Fresh.{filter_map_kept}
use Rattle.block_walk.proofs.Ahead.{has_bit, entry_there, on_list_step, on_list_many}
use Rattle.block_walk.proofs.traces.cross_list.Goals as goal

pub cross_line-requires-clause-there : goal.cross_line-requires-clause-there
cross_line-requires-clause-there c =
    let l = c.args.level.now in
    let way = c.args.way.now in
    let below : c.loop-at.at < length l.words = omega arith in
    entry_there (crossed l way) l c.args.place c.loop-at.at c.word-word.result c.args.met.now c.loop-at.met c.args.out.now.items c.loop-at.out.items c.loop-at.invariant.on below c.word-word.ensures c.if-word.false

pub cross_line-requires-clause-bit : goal.cross_line-requires-clause-bit
cross_line-requires-clause-bit c =
    let l = c.args.level.now in
    let way = c.args.way.now in
    let below : c.loop-at.at < length l.words = omega arith in
    let there = entry_there (crossed l way) l c.args.place c.loop-at.at c.word-word.result c.args.met.now c.loop-at.met c.args.out.now.items c.loop-at.out.items c.loop-at.invariant.on below c.word-word.ensures c.if-word.false in
    let same : length c.loop-at.met ≡ length c.args.met.now = search rules in
    rw same (has_bit l c.args.met.now c.word-word.result c.requires.bits there (search rules))

pub returns-in_err-cross_line-clause-many : goal.returns-in_err-cross_line-clause-many
returns-in_err-cross_line-clause-many c = λ is.
    let l = c.args.level.now in
    let way = c.args.way.now in
    on_list_many (crossed l way) (filter_map_kept (crossing_of l way)) l c.args.place c.loop-at.at c.word-word.result c.args.met.now c.loop-at.met c.args.out.now.items c.loop-at.out.items 128 c.loop-at.invariant.on (omega arith) c.word-word.ensures c.if-word.false
    (c.in_err-cross_line.ensures.many (search rules))

pub loop-at-preserved : goal.loop-at-preserved
loop-at-preserved c =
    let l = c.args.level.now in
    let way = c.args.way.now in
    record {
      on = on_list_step (crossed l way) (filter_map_kept (crossing_of l way)) l c.args.place c.loop-at.at c.word-word.result c.args.met.now c.loop-at.met c.cross_line.new.met c.args.out.now.items c.loop-at.out.items c.cross_line.new.out.items c.loop-at.invariant.on (omega arith) c.word-word.ensures c.if-word.false
          c.in_ok-cross_line.ensures.pairs;
      few = c.in_ok-cross_line.ensures.few;
    }
