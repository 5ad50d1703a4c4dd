use Rattle.std.proofs.Common.{refl}
use Rattle.std.proofs.lemmas.Result.{err_from_is_err_and}
use Rattle.cow_world.specs.Flat.{Gridded}
use Rattle.level_start.specs.Start.{start_of}
use Rattle.play_step.specs.Doom.{Setup}
use Rattle.dsda_cli.proofs.StartLemmas.{start_stops, start_gives}
use Rattle.dsda_cli.proofs.sessions.game_on.Goals as goal

abbrev started : Setup → Gridded
started game = start_of game.level game.tables game.header

pub returns-in_err-new-clause-begun : goal.returns-in_err-new-clause-begun
returns-in_err-new-clause-begun c =
    let made = err_from_is_err_and c.from_residual.result c.from_residual.ensures.1 in
    rw made.1 (start_stops started c.args.level c.args.tables c.args.header c.in_err-new.field-0.0 made.0 made.2 c.in_err-new.ensures.fault)

pub returns-clause-begun : goal.returns-clause-begun
returns-clause-begun c = start_gives started c.args.level c.args.tables c.args.header c.in_ok-new.field-0 c.in_ok-new.ensures.sound (rw c.in_ok-new.ensures.doom refl)
