use Rattle.std.proofs.Common.{ap, ◌∙◌}
use Rattle.cow_world.proofs.Keeps.{keeps_three}
use Rattle.line_specials.specs.Teleports.{stunned}
use Rattle.line_specials.proofs.Arrivals.{stays_alive}
use Rattle.line_specials.proofs.teleports.arrive.Goals as goal

pub returns-clause-fits : goal.returns-clause-fits
returns-clause-fits c =
    keeps_three _ _ _ _ c.in_ok-put_on_floor.ensures.fits c.in_ok-move_to.ensures.fits
    (c.set_player.ensures.keeps
    (stays_alive c.args.world.now _ _ c.args.sector c.args.exit.now c.in_ok-put_on_floor.ensures.ok c.in_ok-move_to.ensures.ok _ (c.stunned-player.ensures ∙ ap (stunned c.args.exit.now.angle) c.player.ensures.player) c.requires.fits.alive))
