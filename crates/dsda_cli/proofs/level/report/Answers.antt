use Rattle.std.proofs.Common.{rules}
use Rattle.dsda_cli.specs.Meaning.{reported}
use Rattle.dsda_cli.proofs.JudgingLemmas.{stopped, further}
use Rattle.dsda_cli.proofs.level.report.Goals as goal

pub returns-in_err-world : goal.returns-in_err-world
unfolding reported
returns-in_err-world c = stopped c.in_err-world.ensures.begun c.from_residual.ensures.1

pub returns : goal.returns
unfolding reported
returns c = further c.in_ok-world.ensures.begun (record { right = search rules })
