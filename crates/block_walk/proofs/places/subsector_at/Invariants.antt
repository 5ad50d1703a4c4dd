use Rattle.block_walk.proofs.Descent.{Descends}
use Rattle.block_walk.proofs.places.subsector_at.Given as goal

abbrev pub invariant-loop-step : goal.invariant-loop-step
invariant-loop-step l = Descends l.level l.x l.y l._step l.child
