use Rattle.std.proofs.Common.{◌≡◌, true, sym, ◌∙◌}
use Rattle.block_walk.specs.Steps.{has, itself}
use Rattle.block_walk.proofs.Fresh.{itself_kept}
use Rattle.block_walk.proofs.Joined.{meets_nothing, meets_again, meets_list}
use Rattle.block_walk.proofs.Passed.{list_passed}
use Rattle.block_walk.proofs.lines.add_block.Goals as goal

pub returns-in_default-clause-lines : goal.returns-in_default-clause-lines
returns-in_default-clause-lines c =
    meets_nothing itself itself_kept c.args.level.now c.args.block c.args.walked.now c.args.met.now c.args.out.now.items c.requires.walked (sym c.in_default.ensures.place)

pub returns-then-contains-clause-lines : goal.returns-then-contains-clause-lines
returns-then-contains-clause-lines c =
    let within : has c.args.walked.now c.in-Some.place ≡ true = sym c.contains.ensures ∙ c.if-contains.true in
    meets_again itself itself_kept c.args.level.now c.args.block c.args.walked.now c.args.met.now c.args.out.now.items c.requires.walked c.in-Some.place (sym c.in-Some.ensures.place) c.in-Some.ensures.sound within

pub returns-clause-lines : goal.returns-clause-lines
returns-clause-lines c =
    meets_list itself itself_kept c.args.level.now c.args.block c.args.walked.now c.args.met.now c.args.out.now.items c.requires.walked c.add_list.new.met c.add.new.self c.add_list.new.out.items c.in-Some.place (sym c.in-Some.ensures.place) c.in-Some.ensures.sound
    c.in_ok-end.ensures.lines c.add.ensures

pub returns-clause-passed : goal.returns-clause-passed
returns-clause-passed c =
    list_passed c.args.level.now c.args.met.now c.add_list.new.met c.args.passed.now c.mark_range.new.marks c.in-Some.place c.in_ok-end.end c.in_ok-end.ensures.lines.marks c.in_ok-end.ensures.end c.requires.passed c.mark_range.ensures
