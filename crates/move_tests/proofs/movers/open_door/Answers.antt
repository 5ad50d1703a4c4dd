use Rattle.std.proofs.lemmas.Result.{on_ok_weaker}
use Rattle.move_tests.proofs.movers.open_door.Goals as goal

pub returns : goal.returns
returns c = record { fits = on_ok_weaker c.do_door.result (λ kept. kept.whole c.args.level.now c.args.tables.now c.requires.fits) c.do_door.ensures.fits }
