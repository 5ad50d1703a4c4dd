use Rattle.dsda_cli.specs.Meaning.{levelled}
use Rattle.dsda_cli.proofs.JudgingLemmas.{stopped, further}
use Rattle.dsda_cli.proofs.level.level.Goals as goal

pub returns-in_err-wad : goal.returns-in_err-wad
unfolding levelled
returns-in_err-wad c = stopped c.in_err-wad.ensures.judged c.from_residual.ensures.1

pub returns-in_err-tables : goal.returns-in_err-tables
unfolding levelled
returns-in_err-tables c = further c.in_ok-wad.ensures.judged (stopped c.in_err-tables.ensures.judged c.from_residual-in_err-tables.ensures.1)

pub returns-in_err-header : goal.returns-in_err-header
unfolding levelled
returns-in_err-header c = further c.in_ok-wad.ensures.judged (further c.in_ok-tables.ensures.judged (stopped c.in_err-header.ensures.read c.from_residual-in_err-header.ensures.1))

pub returns-in_err-level : goal.returns-in_err-level
unfolding levelled
returns-in_err-level c = further c.in_ok-wad.ensures.judged (further c.in_ok-tables.ensures.judged (further c.in_ok-header.ensures.read (stopped (rw c.in_ok-wad.ensures.bytes at c.in_err-level.ensures) c.from_residual-in_err-level.ensures.1)))

pub returns : goal.returns
unfolding levelled
returns c = further c.in_ok-wad.ensures.judged (further c.in_ok-tables.ensures.judged (further c.in_ok-header.ensures.read (further (rw c.in_ok-wad.ensures.bytes at c.in_ok-level.ensures) (rw c.in_ok-tables.ensures.tables at c.report.ensures))))
