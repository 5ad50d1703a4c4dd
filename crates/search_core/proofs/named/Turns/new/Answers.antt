use Rattle.std.proofs.Common.{arith}
use Rattle.search_core.proofs.Coming.{turns_made}
use Rattle.search_core.proofs.named.Turns.new.Goals as goal

pub invariant_of-result : goal.invariant_of-result
invariant_of-result c =
    let first = c.in_ok-first.first in
    let next = c.in_ok-next.next in
    turns_made c.args.order.now c.in_ok-hands.hands.items c.find_places.new.first c.find_places.new.next first.items next.items first.len next.len c.hands_for.result
    c.in_ok-hands.ensures (omega arith) (omega (arith, c.find_places.ensures.found.long)) (omega (arith, c.find_places.ensures.long, c.deref_mut.ensures.len, c.in_ok-first.ensures.long)) c.hands_for.ensures.hands c.hands_for.ensures.few c.hands_for.ensures.each c.find_places.ensures.found
