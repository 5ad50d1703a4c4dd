use Rattle.map_geometry.specs.Level.{lists_of}
use Rattle.map_load.specs.Index.{AreOutlines}
use Rattle.map_load.proofs.index.join.Given as goal

abbrev pub invariant-loop-sector : goal.invariant-loop-sector
invariant-loop-sector l = AreOutlines (lists_of l.parts) l.joined.items l.outlines.items l.sector-index
