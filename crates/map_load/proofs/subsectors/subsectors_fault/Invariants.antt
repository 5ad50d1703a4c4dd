use Rattle.std.proofs.Common.{None}
use Rattle.fixed_angle.specs.FirstFault.{FirstFault, for_each}
use Rattle.map_geometry.specs.Level.{lists_of}
use Rattle.map_geometry.specs.Conditions.{subsector_conditions}
use Rattle.map_load.proofs.subsectors.subsectors_fault.Given as goal

abbrev pub invariant-loop-i : goal.invariant-loop-i
invariant-loop-i l = FirstFault (for_each l.i (subsector_conditions (lists_of l.parts))) None
