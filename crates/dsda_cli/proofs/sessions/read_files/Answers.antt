use Rattle.std.proofs.Common.{rules}
use Rattle.dsda_cli.specs.Meaning.{files_read}
use Rattle.dsda_cli.proofs.JudgingLemmas.{stopped, further}
use Rattle.dsda_cli.proofs.sessions.read_files.Goals as goal

pub returns-in_err-wad-clause-read : goal.returns-in_err-wad-clause-read
unfolding files_read
returns-in_err-wad-clause-read c = stopped c.in_err-wad.ensures.judged c.from_residual.ensures.1

pub returns-in_err-tables-clause-read : goal.returns-in_err-tables-clause-read
unfolding files_read
returns-in_err-tables-clause-read c = further c.in_ok-wad.ensures.judged (stopped c.in_err-tables.ensures.judged c.from_residual-in_err-tables.ensures.1)

pub returns-in_err-demo-clause-read : goal.returns-in_err-demo-clause-read
unfolding files_read
returns-in_err-demo-clause-read c = further c.in_ok-wad.ensures.judged (further c.in_ok-tables.ensures.judged (stopped c.in_err-demo.ensures.read c.from_residual-in_err-demo.ensures.1))

pub returns-in_err-script-clause-read : goal.returns-in_err-script-clause-read
unfolding files_read
returns-in_err-script-clause-read c =
    further c.in_ok-wad.ensures.judged (further c.in_ok-tables.ensures.judged (further c.in_ok-demo.ensures.read (stopped (rw c.long.ensures.value at c.in_err-script.ensures.commands) c.from_residual-in_err-script.ensures.1)))

pub returns-clause-read : goal.returns-clause-read
unfolding files_read
returns-clause-read c =
    further c.in_ok-wad.ensures.judged (further c.in_ok-tables.ensures.judged (further c.in_ok-demo.ensures.read (further (rw c.long.ensures.value at c.in_ok-script.ensures.commands) (record { right = search rules }))))
