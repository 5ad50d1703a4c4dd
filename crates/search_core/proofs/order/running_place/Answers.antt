use Rattle.std.proofs.Common.{arith}
use Rattle.search_core.proofs.Left.{place_passed}
use Rattle.search_core.proofs.Coming.{ended_between}
use Rattle.search_core.proofs.order.running_place.Goals as goal

pub returns-clause-turns : goal.returns-clause-turns
returns-clause-turns c meets at =
    let found = c.loop-hand.invariant in
    place_passed c.args.core.now c.args.turns.now at meets c.args.place c.loop-hand.nearest found.onward
    (ended_between c.args.core.now c.args.turns.now c.args.place c.loop-hand.nearest c.args.next.now c.requires.hands
    (λ i there runs. found.nearest i (omega (arith, c.hands-hand-end.ensures.hands)) runs) c.requires.known)
