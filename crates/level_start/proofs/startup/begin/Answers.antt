use Rattle.cow_world.specs.Fits.{Fits}
use Rattle.level_start.proofs.startup.begin.Goals as goal

pub returns-clause-fits : goal.returns-clause-fits
returns-clause-fits c =
    let level = c.args.level.now in
    let tables = c.args.tables.now in
    let linked : Fits level tables c.link_things.new.world = c.in_ok-link_things.ensures.fits.whole level tables c.in_ok-spawn_things.ensures.fits in
    rw c.own_pages.ensures.kept (c.in_ok-spawn_lights.ensures.fits.whole level tables linked)
