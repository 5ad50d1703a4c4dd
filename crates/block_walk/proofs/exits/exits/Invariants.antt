use Rattle.std.proofs.Common.{All}
use Rattle.map_geometry.specs.Places.{IsKnownIn}
use Rattle.block_walk.proofs.exits.exits.Given as goal

abbrev pub invariant-loop-i : goal.invariant-loop-i
invariant-loop-i l = All (IsKnownIn l.level) l.exits.items
