use Rattle.player_move.proofs.floors.hit.Goals as goal

pub returns-in-Spared-clause-fits : goal.returns-in-Spared-clause-fits
returns-in-Spared-clause-fits c = c.set_body.ensures.fits.whole c.args.level.now c.args.tables.now c.requires.fits

pub returns-in-Lived-clause-fits : goal.returns-in-Lived-clause-fits
returns-in-Lived-clause-fits c =
    c.draw.ensures.fits.whole c.args.level.now c.args.tables.now (c.set_body-in-Lived.ensures.fits.whole c.args.level.now c.args.tables.now c.requires.fits)
