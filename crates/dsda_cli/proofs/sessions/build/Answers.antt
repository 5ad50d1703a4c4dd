use Rattle.dsda_cli.specs.Meaning.{built}
use Rattle.dsda_cli.proofs.JudgingLemmas.{stopped_takes, further_takes}
use Rattle.dsda_cli.proofs.sessions.build.Goals as goal

pub returns-in_err-read : goal.returns-in_err-read
unfolding built
returns-in_err-read g c = stopped_takes c.in_err-read.ensures.read c.from_residual.ensures.1

pub returns : goal.returns
unfolding built
returns g c = further_takes c.in_ok-read.ensures.read c.session.ensures
