use Rattle.std.proofs.lemmas.Result.{on_ok_weaker}
use Rattle.cow_world.proofs.Keeps.{keeps_two}
use Rattle.mover_start.proofs.lifts.do_plat.Goals as goal

pub returns-clause-fits : goal.returns-clause-fits
returns-clause-fits c =
    on_ok_weaker c.start_all.result (λ kept. (keeps_two _ _ _ c.in_ok-wake_for.ensures.fits kept).whole c.args.level.now c.args.tables.now c.requires.fits) c.start_all.ensures.fits

pub returns-clause-keeps : goal.returns-clause-keeps
returns-clause-keeps c =
    on_ok_weaker c.start_all.result (λ kept. keeps_two _ _ _ c.in_ok-wake_for.ensures.fits kept) c.start_all.ensures.fits
