use Rattle.std.proofs.Common.{◌∙◌, sym, subst, arith, rules}
use Rattle.cow_world.specs.Flat.{Gridded}
use Rattle.cow_world.specs.Outcome.{Outcome, Moves}
use Rattle.player_move.proofs.Passes.{slide_ends, slide_sticks, slide_goes_on, begins, no_more}
use Rattle.player_move.proofs.slides.slide.Goals as goal

pub returns-in_err-slide_once-clause-moves : goal.returns-in_err-slide_once-clause-moves
returns-in_err-slide_once-clause-moves c =
    let is = sym (begins c.args.level.now c.args.tables.now c.loop-pass._pass c.loop-pass.world (omega arith)) ∙ c.loop-pass.invariant.same in
    let P : Outcome Gridded → Type 0 = λ outcome. Moves c.from_residual.result c.slide_once.new.world outcome in
    subst P is (search rules)

pub returns-in-Ended-clause-moves : goal.returns-in-Ended-clause-moves
returns-in-Ended-clause-moves c =
    sym c.loop-pass.invariant.same ∙ slide_ends c.args.level.now c.args.tables.now c.loop-pass._pass c.loop-pass.world c.slide_once.new.world c.in_ok-slide_once.field-0 (omega arith) c.in_ok-slide_once.ensures.plays c.in-Ended.is

pub returns-in-Stuck-clause-moves : goal.returns-in-Stuck-clause-moves
returns-in-Stuck-clause-moves c =
    let is = sym (slide_sticks c.args.level.now c.args.tables.now c.loop-pass._pass c.loop-pass.world c.slide_once.new.world c.in_ok-slide_once.field-0 (omega arith) c.in_ok-slide_once.ensures.plays c.in-Stuck.is) ∙ c.loop-pass.invariant.same in
    let P : Outcome Gridded → Type 0 = λ outcome. Moves c.stair_step.result c.stair_step.new.world outcome in
    subst P is c.stair_step.ensures.moves

pub loop-pass-preserved : goal.loop-pass-preserved
loop-pass-preserved c = record {
  same = sym (slide_goes_on c.args.level.now c.args.tables.now c.loop-pass._pass c.loop-pass.world c.slide_once.new.world c.in_ok-slide_once.field-0 (omega arith) c.in_ok-slide_once.ensures.plays c.in-Again.is) ∙ c.loop-pass.invariant.same;
  fits = c.in_ok-slide_once.ensures.fits;
  tics = c.slide_once.ensures.tics ∙ c.loop-pass.invariant.tics;
  pages = omega (arith, c.slide_once.ensures.pages, c.loop-pass.invariant.pages);
}

pub returns-clause-moves : goal.returns-clause-moves
returns-clause-moves c =
    let is = sym (no_more c.args.level.now c.args.tables.now c.loop-pass._pass c.loop-pass.world (omega arith)) ∙ c.loop-pass.invariant.same in
    let P : Outcome Gridded → Type 0 = λ outcome. Moves c.stair_step-2.result c.stair_step-2.new.world outcome in
    subst P is c.stair_step-2.ensures.moves
