use Rattle.cow_world.proofs.Keeps.{keeps_three}
use Rattle.line_specials.proofs.teleports.move_to.Goals as goal

pub returns-clause-fits : goal.returns-clause-fits
returns-clause-fits c = keeps_three _ _ _ _ c.in_ok-link.ensures.fits c.draw.ensures.fits c.draw-2.ensures.fits
