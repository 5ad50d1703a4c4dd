use Rattle.std.proofs.lemmas.Result.{err_from_is_err_and}
use Rattle.cow_world.specs.Flat.{Gridded}
use Rattle.dsda_cli.proofs.StartLemmas.{start_stops, start_gives}
use Rattle.dsda_cli.proofs.begins.begin.Goals as goal

pub returns-in_err-start-clause-begun : goal.returns-in_err-start-clause-begun
returns-in_err-start-clause-begun c =
    let made = err_from_is_err_and c.from_residual.result c.from_residual.ensures.1 in
    rw made.1 (start_stops (λ (world : Gridded). world) c.args.level.now c.args.tables.now c.args.header.now c.in_err-start.field-0.0 made.0 made.2 c.in_err-start.ensures.fault)

pub returns-clause-begun : goal.returns-clause-begun
returns-clause-begun c = start_gives (λ (world : Gridded). world) c.args.level.now c.args.tables.now c.args.header.now c.in_ok-start.field-0 c.in_ok-start.ensures.sound c.in_ok-start.ensures.start
