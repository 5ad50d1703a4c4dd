use Rattle.std.proofs.Common.{w32, sym, ◌∙◌, arith}
use Rattle.std.proofs.lemmas.Int.{to_z-of_z}
use Rattle.block_walk.proofs.Descent.{without_nodes, begins, comes_to, goes_on}
use Rattle.block_walk.proofs.places.subsector_at.Goals as goal

pub returns-then-count-eq0-clause-place : goal.returns-then-count-eq0-clause-place
returns-then-count-eq0-clause-place c =
    sym (without_nodes c.args.level.now c.args.x c.args.y (sym c.node_count-count.ensures.count ∙ c.if-count-eq0.true))

pub loop-step-init : goal.loop-step-init
loop-step-init c =
    let l = c.args.level.now in
    let x = to_z-of_z w32 c.args.x c.ranges.x in
    let y = to_z-of_z w32 c.args.y c.ranges.y in
    let here = rw (x, y, c.node.ensures.entry, c.node_count-count.ensures.count) at c.child_at-child.ensures in
    let there = rw (c.node.ensures.entry, c.node_count-count.ensures.count) at c.node.ensures.sound in
    rw (x, y) (begins l c.args.x c.args.y c.child_at-child.result (omega arith) here there)

pub returns-then-child-ge-SUBSECTOR-clause-place : goal.returns-then-child-ge-SUBSECTOR-clause-place
returns-then-child-ge-SUBSECTOR-clause-place c =
    let x = to_z-of_z w32 c.args.x c.ranges.x in
    let y = to_z-of_z w32 c.args.y c.ranges.y in
    c.from.ensures ∙ comes_to c.args.level.now c.args.x c.args.y c.loop-step._step c.loop-step.child (rw (x, y) at c.loop-step.invariant) c.if-child-ge-SUBSECTOR.true

pub loop-step-preserved : goal.loop-step-preserved
loop-step-preserved c =
    let l = c.args.level.now in
    let x = to_z-of_z w32 c.args.x c.ranges.x in
    let y = to_z-of_z w32 c.args.y c.ranges.y in
    let here = rw (x, y, c.node-in-loop-step.ensures.entry, c.from-in-loop-step.ensures) at c.child_at-child-in-loop-step.ensures in
    let there = rw (c.node-in-loop-step.ensures.entry, c.from-in-loop-step.ensures) at c.node-in-loop-step.ensures.sound in
    rw (x, y) (goes_on l c.args.x c.args.y c.loop-step._step c.loop-step.child c.child_at-child-in-loop-step.result (rw (x, y) at c.loop-step.invariant)
    c.node_count-count.ensures.ends (omega arith) c.if-child-ge-SUBSECTOR.false here there)
