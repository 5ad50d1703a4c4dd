use Rattle.std.proofs.Common.{◌≡◌, Err, ap, sym, ◌∙◌, rules}
use Rattle.clip_check.specs.declared.trial.Checked.{Checked}
use Rattle.clip_check.specs.Checks.{beside}
use Rattle.clip_check.proofs.Listing.{found_all}
use Rattle.clip_check.proofs.Halts.{moves_plays}
use Rattle.clip_check.proofs.lines.find_between.Goals as goal

pub returns-in_err-meet_lines-clause-found : goal.returns-in_err-meet_lines-clause-found
returns-in_err-meet_lines-clause-found c =
    let fails : c.from_residual.result ≡ Err c.in_err-meet_lines.field-0.0 = search rules in
    let all = found_all c.args.level.now c.args.world.now c.args.trial.now c.box_of-area.result c.between-found.result c.box_of-area.ensures (search rules) in
    rw fails (moves_plays (Unit {0}) Checked c.in_err-meet_lines.field-0.0 _ c.args.world.now _ _ (λ reason is. ap (beside c.args.world.now) (sym all ∙ is)) c.in_err-meet_lines.ensures.found)

pub returns-clause-found : goal.returns-clause-found
returns-clause-found c =
    let all = found_all c.args.level.now c.args.world.now c.args.trial.now c.box_of-area.result c.between-found.result c.box_of-area.ensures (search rules) in
    ap (beside c.args.world.now) (sym all ∙ c.in_ok-meet_lines.ensures.found)
