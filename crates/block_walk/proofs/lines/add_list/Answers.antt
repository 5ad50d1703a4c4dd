use Rattle.std.proofs.Common.{◌<◌, ◌≡◌, length, arith, rules, sym, ◌∙◌}
use Rattle.block_walk.specs.Steps.{itself}
use Rattle.block_walk.proofs.Fresh.{itself_kept}
use Rattle.block_walk.proofs.Ahead.{has_bit, entry_there}
use Rattle.block_walk.proofs.Passed.{at_word_step, done_at_passed}
use Rattle.block_walk.proofs.lines.add_list.Goals as goal

pub add_line-requires : goal.add_line-requires
add_line-requires c =
    let l = c.args.level.now in
    let below : c.loop-at.at < length l.words = omega arith in
    let there = entry_there itself l c.args.place c.loop-at.at c.word-word.result c.args.met.now c.loop-at.met c.args.out.now.items c.loop-at.out.items c.loop-at.invariant.on below c.word-word.ensures c.if-word.false in
    let same : length c.loop-at.met ≡ length c.args.met.now = search rules in
    rw same (has_bit l c.args.met.now c.word-word.result c.requires.bits there (search rules))

pub loop-at-preserved : goal.loop-at-preserved
loop-at-preserved c =
    at_word_step itself itself_kept c.args.level.now c.args.place c.loop-at.at c.word-word.result c.args.met.now c.loop-at.met c.add_line.new.met c.args.passed.now c.args.out.now.items c.loop-at.out.items c.add_line.new.out.items c.loop-at.invariant (omega arith) c.word-word.ensures c.if-word.false
    c.in_ok-add_line.ensures

pub returns-then-is_marked-clause-lines : goal.returns-then-is_marked-clause-lines
returns-then-is_marked-clause-lines c =
    done_at_passed itself itself_kept c.args.level.now c.args.place c.loop-at.at c.args.met.now c.loop-at.met c.args.passed.now c.args.out.now.items c.loop-at.out.items c.loop-at.invariant.on c.loop-at.invariant.passed (sym c.is_marked.ensures ∙ c.if-is_marked.true)
