use Rattle.map_load.specs.Index.{AreEmpty}
use Rattle.map_load.proofs.index.no_lines.Given as goal

abbrev pub invariant-loop-sector : goal.invariant-loop-sector
invariant-loop-sector l = AreEmpty l._sector l.sectors.items
