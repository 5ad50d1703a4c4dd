use Rattle.map_geometry.specs.Level.{lists_of}
use Rattle.map_load.specs.Index.{HaveLines}
use Rattle.map_load.proofs.index.gather.Given as goal

abbrev pub invariant-loop-i : goal.invariant-loop-i
invariant-loop-i l = HaveLines (lists_of l.parts) l.i l.sectors.items
