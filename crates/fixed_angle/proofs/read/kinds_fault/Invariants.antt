use Rattle.std.proofs.Common.{None}
use Rattle.fixed_angle.specs.FirstFault.{FirstFault, for_each}
use Rattle.fixed_angle.specs.TableFile.{kind_conditions}
use Rattle.fixed_angle.proofs.read.kinds_fault.Given as goal

-- none of the kinds so far has the number of an earlier one
abbrev pub invariant-loop-i : goal.invariant-loop-i
invariant-loop-i l = FirstFault (for_each l.i (kind_conditions l.kinds)) None
