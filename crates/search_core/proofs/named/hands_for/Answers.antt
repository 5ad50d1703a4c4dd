use Rattle.std.proofs.Common.{arith}
use Rattle.std.proofs.lemmas.List.{drop_all}
use Rattle.search_core.proofs.Left.{greatest_bounds}
use Rattle.search_core.proofs.named.hands_for.Goals as goal

pub returns-clause-each : goal.returns-clause-each
returns-clause-each c k d within =
    let rest = drop_all c.loop-hand.hand-index c.args.order.now (omega arith) in
    let whole = rw rest at c.loop-hand.invariant.0 in
    omega (arith, whole, greatest_bounds c.args.order.now k d within, c.from.ensures)
