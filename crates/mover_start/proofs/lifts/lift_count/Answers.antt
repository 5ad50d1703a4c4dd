use Rattle.std.proofs.Common.{arith}
use Rattle.cow_world.specs.Flat.{parts}
use Rattle.mover_start.proofs.LiftsLeft.{lifts_past}
use Rattle.mover_start.proofs.lifts.lift_count.Goals as goal

pub loop-from-preserved : goal.loop-from-preserved
loop-from-preserved c =
    let thinkers = (parts c.args.world.now).thinkers in
    let live = c.stretch_from-live in
    let past = lifts_past thinkers c.loop-from.from live.result.start live.ensures.from (omega (arith, live.ensures.order, live.ensures.there)) live.ensures.ended in (
      omega (arith, past, c.lifts_in-count.ensures.lifts, c.loop-from.invariant.0),
      omega (arith, c.lifts_in-count.ensures.few, c.loop-from.invariant.1, live.ensures.from),
      live.ensures.there,
    )
