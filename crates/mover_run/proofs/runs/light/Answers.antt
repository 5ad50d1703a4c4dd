use Rattle.std.proofs.Common.{◌≡◌, length, sym, subst}
use Rattle.std.proofs.lemmas.Result.{on_ok_weaker}
use Rattle.cow_world.specs.Flat.{Gridded, parts}
use Rattle.light_fx.proofs.Lamps.{count_run}
use Rattle.mover_run.proofs.runs.light.Goals as goal

pub returns-clause-fits : goal.returns-clause-fits
returns-clause-fits c = on_ok_weaker c.run_light.result (λ kept. kept.whole c.args.level.now c.args.tables.now c.requires.fits) c.run_light.ensures.fits

pub returns-clause-many : goal.returns-clause-many
returns-clause-many c =
    let Many : Gridded → Type 0 = λ world. length (parts world).thinkers ≡ length (parts c.args.world.now).thinkers in
    on_ok_weaker c.run_light.result (λ is. subst Many (sym is) (count_run c.args.tables.now c.args.i c.args.world.now)) c.run_light.ensures.ok
