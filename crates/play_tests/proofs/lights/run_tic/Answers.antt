use Rattle.std.proofs.lemmas.Result.{on_ok_weaker}
use Rattle.play_tests.proofs.lights.run_tic.Goals as goal

pub returns : goal.returns
returns c = record { fits = on_ok_weaker c.run_lights.result (λ kept. kept.whole c.args.level.now c.args.tables.now c.requires.fits) c.run_lights.ensures.fits }
