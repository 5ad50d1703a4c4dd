use Rattle.std.proofs.Common.{rules}
use Rattle.cow_world.specs.Fits.{StaysAlive}
use Rattle.player_move.proofs.falls.fly.Goals as goal

pub returns-clause-fits : goal.returns-clause-fits
returns-clause-fits c =
    let kept = c.in_ok-set_thing.ensures.fits (search rules) in
    let alive : StaysAlive c.set_thing.new.self c.with_momz.result = record { thing = search rules; alive = search rules } in
    (c.set_player.ensures.keeps alive).whole c.args.level.now c.args.tables.now (kept.whole c.args.level.now c.args.tables.now c.requires.fits)
