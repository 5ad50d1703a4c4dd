use Rattle.std.proofs.Common.{◌≤◌, max}
use Rattle.block_walk.specs.Steps.{MarksOnly}
use Rattle.block_walk.proofs.marks.mark_range.Given as goal

abbrev pub invariant-loop-at : goal.invariant-loop-at
invariant-loop-at l = record {
  only : MarksOnly l.initial.marks l.marks l.from l.at;
  from : l.from ≤ l.at;
  to : l.at ≤ max l.from l.to;
}
