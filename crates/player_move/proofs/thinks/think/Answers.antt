use Rattle.player_move.proofs.thinks.think.Goals as goal

pub feel_floor-requires : goal.feel_floor-requires
feel_floor-requires c = record { fits = c.steer.ensures.fits.whole c.args.level.now c.args.tables.now c.requires.fits }
