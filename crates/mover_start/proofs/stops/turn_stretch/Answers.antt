use Rattle.std.proofs.Common.{◌∙◌, arith}
use Rattle.cow_world.proofs.Keeps.{keeps_two}
use Rattle.mover_start.proofs.Turns.{turned_next}
use Rattle.mover_start.proofs.stops.turn_stretch.Goals as goal

pub loop-place-preserved : goal.loop-place-preserved
loop-place-preserved c = (
  turned_next c.args.level.now _ c.args.to _ _ _ (c.loop-place.world, c.loop-place.turned) _ c.loop-place.place c.loop-place.invariant.0 c.loop-place-test.true c.in_ok-turned.ensures.ok,
  keeps_two _ _ _ c.loop-place.invariant.1 c.in_ok-turned.ensures.fits,
  c.turn_lift.ensures.tics ∙ c.loop-place.invariant.2,
  omega (arith, c.turn_lift.ensures.pages, c.loop-place.invariant.3),
)
