use Rattle.std.proofs.lemmas.Result.{on_ok_weaker}
use Rattle.mover_run.proofs.movers.end_mover.Goals as goal

pub returns-clause-fits : goal.returns-clause-fits
returns-clause-fits c =
    on_ok_weaker c.end_mover.result (λ kept. (kept c.requires.mover.moves).whole c.args.level.now c.args.tables.now c.requires.fits) c.end_mover.ensures.fits
