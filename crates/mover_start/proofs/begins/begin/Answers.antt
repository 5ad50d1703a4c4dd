use Rattle.cow_world.proofs.Keeps.{keeps_two}
use Rattle.mover_start.proofs.Named.{named_last}
use Rattle.mover_start.proofs.begins.begin.Goals as goal

pub returns-clause-fits : goal.returns-clause-fits
returns-clause-fits c =
    keeps_two _ _ _ (c.in_ok-push_thinker.ensures.fits c.requires.room)
    (c.in_ok-set_sector.ensures.fits (named_last c.args.world.now _ c.args.mover _ c.args.sector c.in_ok-push_thinker.ensures.ok c.thinker_count-place.ensures c.requires.moves))
