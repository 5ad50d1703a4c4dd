use Rattle.dsda_cli.specs.Meaning.{simulated}
use Rattle.dsda_cli.proofs.JudgingLemmas.{stopped_takes, further_takes}
use Rattle.dsda_cli.proofs.sessions.sim.Goals as goal

pub returns-in_err-read : goal.returns-in_err-read
unfolding simulated
returns-in_err-read g c = stopped_takes c.in_err-read.ensures.read c.from_residual.ensures.1

pub returns-in_err-turns : goal.returns-in_err-turns
unfolding simulated
returns-in_err-turns g c = further_takes c.in_ok-read.ensures.read (stopped_takes c.in_err-turns.ensures.turns c.from_residual-in_err-turns.ensures.1)

pub returns : goal.returns
unfolding simulated
returns g c = further_takes c.in_ok-read.ensures.read (further_takes c.in_ok-turns.ensures.turns c.session.ensures)
