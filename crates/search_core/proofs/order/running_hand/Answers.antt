use Rattle.std.proofs.Common.{arith}
use Rattle.search_core.proofs.Runs.{all_over}
use Rattle.search_core.proofs.Left.{hand_passed, hand_passed_round}
use Rattle.search_core.proofs.order.running_hand.Goals as goal

pub returns-then-next-hands-clause-turns : goal.returns-then-next-hands-clause-turns
returns-then-next-hands-clause-turns c meets =
    hand_passed c.args.core.now meets c.args.at c.running_from-next.result c.running_from-next.ensures.within.0 c.running_from-next.ensures.within.1 c.running_from-next.ensures.passed

pub returns-clause-turns : goal.returns-clause-turns
returns-clause-turns c meets =
    hand_passed_round c.args.core.now meets c.args.at c.running_from-next.result c.running_from.result c.hands.ensures.sound c.running_from-next.ensures.within.0
    (omega (arith, c.hands.ensures.hands, c.if-next-hands.false, c.running_from-next.ensures.within.1)) c.running_from.ensures.within.1 c.running_from-next.ensures.passed c.running_from.ensures.passed

pub returns-clause-none : goal.returns-clause-none
returns-clause-none c whole = all_over c.args.core.now (λ k within. c.running_from.ensures.passed k (omega arith) (omega arith))
