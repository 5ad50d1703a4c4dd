use Rattle.std.proofs.Common.{rules}
use Rattle.dsda_cli.specs.Meaning.{level_in}
use Rattle.dsda_cli.proofs.JudgingLemmas.{stopped, further, chosen}
use Rattle.dsda_cli.proofs.level.level_in.Goals as goal

pub returns-in_err-found : goal.returns-in_err-found
unfolding level_in
returns-in_err-found c = stopped c.in_err-found.ensures.judged c.from_residual.ensures.1

pub returns-in_err-level : goal.returns-in_err-level
unfolding level_in
returns-in_err-level c = further c.in_ok-found.ensures.judged (chosen c.in_ok-found.found c.in_ok-found.ensures.found (stopped c.in_err-level.ensures.judged c.from_residual-in_err-level.ensures.1))

pub returns : goal.returns
unfolding level_in
returns c = further c.in_ok-found.ensures.judged (chosen c.in_ok-found.found c.in_ok-found.ensures.found (further c.in_ok-level.ensures.judged (record { right = search rules })))
