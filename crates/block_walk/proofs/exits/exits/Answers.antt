use Rattle.std.proofs.lemmas.List.Elements.{All-push}
use Rattle.map_geometry.specs.Places.{IsKnownIn}
use Rattle.block_walk.proofs.exits.exits.Goals as goal
use Rattle.block_walk.proofs.exits.exits.Goals.{then-spot-eq-MARKER+in_ok-push, else-spot-eq-MARKER}

pub loop-i-preserved : goal.loop-i-preserved
loop-i-preserved c = elim c.if-spot-eq-MARKER.branch [
  | then-spot-eq-MARKER+in_ok-push w ↦ rw (w.exits-is, w.in_ok-push.ensures.items) (All-push (IsKnownIn c.args.level.now) c.loop-i.exits.items _ c.loop-i.invariant w.with_sector.ensures)
  | else-spot-eq-MARKER w ↦ rw w.exits-is c.loop-i.invariant
]
