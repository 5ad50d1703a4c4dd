use Rattle.clip_check.proofs.clip.height_clip.Goals as goal

pub returns-clause-fits : goal.returns-clause-fits
returns-clause-fits c = c.in_ok-settle.ensures.fits.whole c.args.level.now c.args.tables.now c.in_ok-checked.ensures.fits
