use Rattle.std.proofs.Common.{rules}
use Rattle.player_move.proofs.Steered.{stays_alive}
use Rattle.player_move.proofs.thinks.steer.Goals as goal

pub returns-clause-fits : goal.returns-clause-fits
returns-clause-fits c =
    c.set_player.ensures.keeps (stays_alive c.args.tables.now c.args.tic.now c.own_thing-thing.result c.args.world.now c.steered-to.result (search rules) c.requires.player)
