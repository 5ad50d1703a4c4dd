use Rattle.std.proofs.Common.{sym, subst, length, ◌<◌, ◌∙◌, rules, ℕ, ap}
use Rattle.std.specs.Prelude.{Option, IfSome}
use Rattle.std.proofs.lemmas.Result.{on_ok_weaker}
use Rattle.cow_world.specs.Flat.{parts}
use Rattle.cow_world.specs.declared.records.Sector.{Sector}
use Rattle.mover_run.proofs.Turns.{still_named}
use Rattle.mover_run.proofs.planes.set_plane.Goals as goal

pub set_sector-requires-clause-mover : goal.set_sector-requires-clause-mover
set_sector-requires-clause-mover c =
    let Below : Option ℕ → Type 0 = λ mover. IfSome mover (λ m. m < length (parts c.args.world.now).thinkers) in
    subst Below (sym c.with_height-after.ensures.mover) c.sector-before.ensures.mover

pub returns-clause-fits : goal.returns-clause-fits
returns-clause-fits c =
    let below : c.args.sector < length (parts c.args.world.now).sectors = search rules in
    on_ok_weaker c.set_sector.result
    (λ keeps. (keeps (still_named c.args.level.now c.args.world.now c.args.sector c.with_height-after.result c.requires.fits.lists below
    (c.with_height-after.ensures.mover ∙ ap (λ (s : Sector). s.mover) c.sector-before.ensures.entry))).whole c.args.level.now c.args.tables.now c.requires.fits)
    c.set_sector.ensures.fits
