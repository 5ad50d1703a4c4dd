use Rattle.std.proofs.Common.{refl}
use Rattle.search_core.proofs.Left.{new_follows, new_schedule}
use Rattle.search_core.proofs.order.Schedule.new.Goals as goal

pub returns-clause-follows : goal.returns-clause-follows
returns-clause-follows c meets list =
    new_follows c.args.count c.args.block c.hands.result c.in_ok-core.core c.args.turns.now c.args.turns.now meets c.in_ok-core.ensures.opening c.hands.ensures.hands refl
    c.in_ok-core.ensures.sound c.hands.ensures.each (c.in_ok-core.ensures.fits meets list)

pub invariant_of-result : goal.invariant_of-result
invariant_of-result c =
    new_schedule c.args.count c.args.block c.hands.result c.in_ok-core.core c.args.turns.now c.in_ok-next.next.items c.in_ok-core.ensures.opening c.hands.ensures.hands c.in_ok-core.ensures.sound
    c.in_ok-core.ensures.work c.requires.count c.hands.ensures.few c.hands.ensures.each c.in_ok-next.ensures.long c.in_ok-next.ensures.comes
