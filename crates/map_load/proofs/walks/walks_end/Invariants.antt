use Rattle.map_load.proofs.Ways.{Searches, left}
use Rattle.map_load.proofs.walks.walks_end.Given as goal

abbrev pub invariant-loop-at : goal.invariant-loop-at
invariant-loop-at l = Searches l.nodes l.settled.items l.path.items

abbrev pub decreases-loop-at : goal.decreases-loop-at
decreases-loop-at l = left l.nodes l.settled.items l.path.items
