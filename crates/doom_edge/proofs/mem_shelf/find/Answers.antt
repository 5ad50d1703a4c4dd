use Rattle.std.proofs.Common.{sym, ◌∙◌, ap}
use Rattle.std.specs.Str.{bytes_eq}
use Rattle.doom_edge.proofs.mem_shelf.find.Goals as goal
use Rattle.doom_edge.proofs.Entries.{passed, found, ended}

pub loop-held-preserved : goal.loop-held-preserved
loop-held-preserved c =
    let other = ap (bytes_eq c.args.name.now) (sym c.as_str.ensures.value) ∙ sym c.eq.ensures ∙ c.if-eq.false in
    passed c.args.name.now c.args.files.now c.loop-held.held-index c.loop-held-item.result c.loop-held-test.true c.loop-held-item.is other
    ∙ c.loop-held.invariant

pub returns-then-eq : goal.returns-then-eq
returns-then-eq c =
    let same = ap (bytes_eq c.args.name.now) (sym c.as_str.ensures.value) ∙ sym c.eq.ensures ∙ c.if-eq.true in
    rw c.as_slice.ensures.value (
    found c.args.name.now c.args.files.now c.loop-held.held-index c.loop-held-item.result c.loop-held-test.true c.loop-held-item.is same
    ∙ c.loop-held.invariant)

pub returns : goal.returns
returns c =
    ended c.args.name.now c.args.files.now c.loop-held.held-index c.loop-held-test.false ∙ c.loop-held.invariant
