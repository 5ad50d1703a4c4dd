use Rattle.std.proofs.Common.{sym}
use Rattle.std.proofs.lemmas.Result.{on_ok_weaker}
use Rattle.mover_run.proofs.lifts.put_lift.Goals as goal

pub returns-clause-fits : goal.returns-clause-fits
returns-clause-fits c =
    on_ok_weaker c.set_thinker.result (λ kept. (kept (record { moves = sym c.requires.mover.moves; lift = sym c.requires.mover.is })).whole c.args.level.now c.args.tables.now c.requires.fits) c.set_thinker.ensures.goes_on
