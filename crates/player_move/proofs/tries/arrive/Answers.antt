use Rattle.std.proofs.Common.{rules}
use Rattle.player_move.proofs.tries.arrive.Goals as goal

pub returns-clause-fits : goal.returns-clause-fits
returns-clause-fits c =
    let kept = c.in_ok-set_thing.ensures.fits (search rules) in
    c.in_ok-link.ensures.fits.whole c.args.level.now c.args.tables.now (kept.whole c.args.level.now c.args.tables.now c.requires.fits)
