use Rattle.std.proofs.Common.{rules}
use Rattle.move_tests.proofs.checks.raise.Goals as goal

pub returns : goal.returns
returns c = record { fits = (c.in_ok-set_thing.ensures.fits (search rules)).whole c.args.level.now c.args.tables.now c.requires.fits }
