use Rattle.std.proofs.Common.{rules}
use Rattle.dsda_cli.specs.Meaning.{edited}
use Rattle.dsda_cli.proofs.JudgingLemmas.{stopped, further}
use Rattle.dsda_cli.proofs.work.edit.Goals as goal

pub returns-in_err-header : goal.returns-in_err-header
unfolding edited
returns-in_err-header c = stopped c.in_err-header.ensures.read c.from_residual.ensures.1

pub returns-in_err-tape : goal.returns-in_err-tape
unfolding edited
returns-in_err-tape c = further c.in_ok-header.ensures.read (stopped (rw c.long.ensures.value at c.in_err-tape.ensures.tics) c.from_residual-in_err-tape.ensures.1)

pub returns : goal.returns
unfolding edited
returns c = further c.in_ok-header.ensures.read (further (rw c.long.ensures.value at c.in_ok-tape.ensures.tics) (record { right = search rules }))
