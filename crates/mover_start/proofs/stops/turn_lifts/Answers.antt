use Rattle.std.proofs.Common.{◌∙◌, arith}
use Rattle.cow_world.proofs.Keeps.{keeps_two}
use Rattle.mover_start.proofs.Turns.{turned_on}
use Rattle.mover_start.proofs.stops.turn_lifts.Goals as goal

pub loop-from-preserved : goal.loop-from-preserved
loop-from-preserved c =
    let live = c.stretch_from-live in
    let many = c.loop-from.invariant.0.many in (
      turned_on c.args.level.now _ c.args.to _ _ c.loop-from.from live.result (c.loop-from.world, c.loop-from.turned) _ c.loop-from.invariant.0
          live.ensures.from live.ensures.order (omega (arith, live.ensures.there, many)) live.ensures.ended c.in_ok-turned.ensures.ok,
      keeps_two _ _ _ c.loop-from.invariant.1 c.in_ok-turned.ensures.fits,
      omega (arith, live.ensures.there, many),
      c.turn_stretch.ensures.tics ∙ c.loop-from.invariant.3,
      omega (arith, c.turn_stretch.ensures.pages, c.loop-from.invariant.4),
    )
