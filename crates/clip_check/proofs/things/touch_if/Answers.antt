use Rattle.std.proofs.lemmas.Result.{on_ok_weaker}
use Rattle.clip_check.proofs.things.touch_if.Goals as goal

pub returns-clause-fits : goal.returns-clause-fits
returns-clause-fits c = on_ok_weaker c.touch.result (λ kept. kept.whole c.args.level.now c.args.tables.now c.requires.fits) c.touch.ensures.fits
