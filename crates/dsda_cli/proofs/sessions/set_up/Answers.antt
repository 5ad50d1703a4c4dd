use Rattle.std.proofs.Common.{ap, sym, Ok}
use Rattle.dsda_cli.specs.Meaning.{set_up}
use Rattle.dsda_cli.proofs.JudgingLemmas.{stopped, further}
use Rattle.dsda_cli.proofs.sessions.set_up.Goals as goal

pub returns-in_err-level-clause-game : goal.returns-in_err-level-clause-game
unfolding set_up
returns-in_err-level-clause-game c = stopped c.in_err-level.ensures c.from_residual.ensures.1

pub returns-in_err-game-clause-game : goal.returns-in_err-game-clause-game
unfolding set_up
returns-in_err-game-clause-game c = further c.in_ok-level.ensures (stopped c.in_err-game.ensures.begun c.from_residual-in_err-game.ensures.1)

pub returns-in_err-found-clause-game : goal.returns-in_err-found-clause-game
unfolding set_up
returns-in_err-found-clause-game c =
    further c.in_ok-level.ensures (further c.in_ok-game.ensures.begun (stopped c.in_err-found.ensures.found c.from_residual-in_err-found.ensures.1))

pub returns-clause-game : goal.returns-clause-game
unfolding set_up
returns-clause-game c =
    further c.in_ok-level.ensures (further c.in_ok-game.ensures.begun (further c.in_ok-found.ensures.found (record { right = ap Ok (sym c.in_ok-game.ensures.game) })))
