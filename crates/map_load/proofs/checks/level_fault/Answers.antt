use Rattle.std.proofs.lemmas.Result.{IfOk-weaker}
use Rattle.fixed_angle.specs.FirstFault.{FirstFault}
use Rattle.map_geometry.specs.Level.{lists_of}
use Rattle.map_geometry.specs.Conditions.{block_checks, conditions}
use Rattle.map_load.proofs.Groups.{in_lines, in_subsectors, in_nodes, in_blocks}
use Rattle.map_load.proofs.checks.level_fault.Goals as goal

pub returns-in-Some : goal.returns-in-Some
returns-in-Some c = in_lines (lists_of c.args.parts.now) c.in-Some.fault c.in-Some.ensures

pub returns-in-Some-subsectors_fault : goal.returns-in-Some-subsectors_fault
returns-in-Some-subsectors_fault c = in_subsectors (lists_of c.args.parts.now) c.in-Some-subsectors_fault.fault c.in_default.ensures c.in-Some-subsectors_fault.ensures

pub returns-in-Some-2 : goal.returns-in-Some-2
returns-in-Some-2 c = in_nodes (lists_of c.args.parts.now) c.in-Some-2.fault c.in_default.ensures c.in_default-subsectors_fault.ensures (rw c.in-Some-2.is at c.in_ok-fault.ensures)

pub returns : goal.returns
returns c = IfOk-weaker c.blocks_fault.result (FirstFault (block_checks (lists_of c.args.parts.now))) (FirstFault (conditions (lists_of c.args.parts.now)))
    (λ outcome p. in_blocks (lists_of c.args.parts.now) outcome c.in_default.ensures c.in_default-subsectors_fault.ensures (rw c.in_default-2.is at c.in_ok-fault.ensures) p) c.blocks_fault.ensures
