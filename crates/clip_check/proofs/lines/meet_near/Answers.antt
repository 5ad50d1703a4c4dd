use Rattle.std.proofs.Common.{◌≡◌, Err, All, rules, subst, length, ℕ, ◌<◌, List}
use Rattle.std.proofs.lemmas.List.Elements.{All-tail}
use Rattle.clip_check.specs.Lines.{line_tests}
use Rattle.clip_check.proofs.Listing.{line_next, line_halts, line_closed}
use Rattle.clip_check.proofs.Halts.{moves_on}
use Rattle.clip_check.proofs.lines.meet_near.Goals as goal

pub returns-then-not-found-clause-found : goal.returns-then-not-found-clause-found
returns-then-not-found-clause-found c =
    line_closed (line_tests c.args.level.now c.args.world.now c.args.trial.now.player c.args.area.now) _ c.loop-line.found c.loop-line.line-iterator c.loop-line.invariant.left c.if-not-found.true

pub loop-line-preserved : goal.loop-line-preserved
loop-line-preserved c = record {
  left = line_next (line_tests c.args.level.now c.args.world.now c.args.trial.now.player c.args.area.now) _ c.loop-line.found c.meet_line.new.found c.in-Some.line c.loop-line.line-iterator c.next.new.self c.loop-line.invariant.left c.in-Some.ensures.steps c.if-not-found.false c.in_ok-meet_line.ensures.found;
  ahead = let Ahead : List ℕ → Type 0 = λ lines. All (λ line. line < length c.args.level.now.lines) lines in All-tail (λ line. line < length c.args.level.now.lines) c.in-Some.line c.next.new.self (subst Ahead c.in-Some.ensures.steps c.loop-line.invariant.ahead);
  there = c.in_ok-meet_line.ensures.there;
}

pub returns-in_err-meet_line-clause-found : goal.returns-in_err-meet_line-clause-found
returns-in_err-meet_line-clause-found c =
    let fails : c.from_residual.result ≡ Err c.in_err-meet_line.field-0.0 = search rules in
    rw fails (moves_on (Unit {0}) (Unit {0}) c.in_err-meet_line.field-0.0 _ _ _ _
    (line_halts (line_tests c.args.level.now c.args.world.now c.args.trial.now.player c.args.area.now) _ c.loop-line.found c.in-Some.line c.loop-line.line-iterator c.next.new.self c.loop-line.invariant.left c.in-Some.ensures.steps c.if-not-found.false)
    c.in_err-meet_line.ensures.found)
