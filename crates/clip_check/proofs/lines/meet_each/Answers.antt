use Rattle.std.proofs.Common.{◌≡◌, ◌+◌, Err, rules, drop, get_or}
use Rattle.clip_check.specs.Lines.{line_tests}
use Rattle.clip_check.proofs.Encounters.{drop_first}
use Rattle.clip_check.proofs.Listing.{line_next, line_halts, line_closed}
use Rattle.clip_check.proofs.Halts.{moves_on}
use Rattle.clip_check.proofs.lines.meet_each.Goals as goal

pub returns-then-not-found-clause-found : goal.returns-then-not-found-clause-found
returns-then-not-found-clause-found c =
    line_closed (line_tests c.args.level.now c.args.world.now c.args.trial.now.player c.args.area.now) _ c.loop-line.found (drop c.loop-line.line-index c.args.lines.now) c.loop-line.invariant.left c.if-not-found.true

pub loop-line-preserved : goal.loop-line-preserved
loop-line-preserved c =
    let lines = c.args.lines.now in
    let i = c.loop-line.line-index in
    record {
      left = line_next (line_tests c.args.level.now c.args.world.now c.args.trial.now.player c.args.area.now) _ c.loop-line.found c.meet_line.new.found (get_or lines i 0) (drop i lines) (drop (i + 1) lines) c.loop-line.invariant.left (drop_first lines i c.loop-line-test.true) c.if-not-found.false c.in_ok-meet_line.ensures.found;
      there = c.in_ok-meet_line.ensures.there;
    }

pub returns-in_err-meet_line-clause-found : goal.returns-in_err-meet_line-clause-found
returns-in_err-meet_line-clause-found c =
    let lines = c.args.lines.now in
    let i = c.loop-line.line-index in
    let fails : c.from_residual.result ≡ Err c.in_err-meet_line.field-0.0 = search rules in
    rw fails (moves_on (Unit {0}) (Unit {0}) c.in_err-meet_line.field-0.0 _ _ _ _
    (line_halts (line_tests c.args.level.now c.args.world.now c.args.trial.now.player c.args.area.now) _ c.loop-line.found (get_or lines i 0) (drop i lines) (drop (i + 1) lines) c.loop-line.invariant.left (drop_first lines i c.loop-line-test.true) c.if-not-found.false)
    c.in_err-meet_line.ensures.found)
