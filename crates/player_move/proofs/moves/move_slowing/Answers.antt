use Rattle.player_move.proofs.moves.move_slowing.Goals as goal

pub returns-clause-fits : goal.returns-clause-fits
returns-clause-fits c = c.slow_down.ensures.fits.whole c.args.level.now c.args.tables.now c.in_ok-move_parts.ensures.fits
