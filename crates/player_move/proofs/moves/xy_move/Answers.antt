use Rattle.player_move.proofs.moves.xy_move.Goals as goal

pub move_slowing-requires : goal.move_slowing-requires
move_slowing-requires c = record { fits = c.limit.ensures.fits.whole c.args.level.now c.args.tables.now c.requires.fits }
