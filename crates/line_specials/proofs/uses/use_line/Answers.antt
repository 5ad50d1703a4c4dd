use Rattle.cow_world.proofs.Keeps.{keeps_two}
use Rattle.line_specials.proofs.uses.use_line.Goals as goal

pub returns-in_ok-finish-in-Some-clause-fits : goal.returns-in_ok-finish-in-Some-clause-fits
returns-in_ok-finish-in-Some-clause-fits c =
    (keeps_two _ _ _ c.in_ok-perform-in-Some.ensures.fits c.in_ok-finish-in-Some.ensures.fits).whole c.args.level.now c.args.tables.now c.requires.fits

pub returns-else-branch-clause-fits : goal.returns-else-branch-clause-fits
returns-else-branch-clause-fits c = c.in_ok-perform-in-Some.ensures.fits.whole c.args.level.now c.args.tables.now c.requires.fits
