use Rattle.std.proofs.Common.{sym, ◌∙◌}
use Rattle.std.proofs.lemmas.Bool.{false≢true}
use Rattle.map_geometry.specs.Level.{lists_of}
use Rattle.map_load.proofs.Groups.{children_fault, children_hold, loops, loops_not}
use Rattle.map_load.proofs.nodes.nodes_fault.Goals as goal

pub returns-in-Some : goal.returns-in-Some
returns-in-Some c = children_fault (lists_of c.args.parts.now) c.in-Some.fault c.in-Some.ensures

pub walks_end-requires : goal.walks_end-requires
walks_end-requires c = rw c.deref.ensures.value (children_hold (lists_of c.args.parts.now) c.in_default.ensures)

pub returns-then-not-branch : goal.returns-then-not-branch
returns-then-not-branch c =
    let told = rw c.deref.ensures.value at c.in_ok-walks_end.ensures in
    loops (lists_of c.args.parts.now) c.in_default.ensures (λ ends. false≢true (sym c.if-not-branch.true ∙ told.1 ends))

pub returns : goal.returns
returns c =
    let told = rw c.deref.ensures.value at c.in_ok-walks_end.ensures in
    loops_not (lists_of c.args.parts.now) c.in_default.ensures (told.0 c.if-not-branch.false)
