use Rattle.link_order.proofs.Orders.{order_of-none, IsOrder-none}
use Rattle.link_order.proofs.order.LinkOrder.of.Goals as goal

pub invariant_of-result : goal.invariant_of-result
invariant_of-result c = rw (c.new-3.ensures, c.in_ok-base-2.ensures.ok, c.in_ok-base.ensures) (IsOrder-none _ _ c.requires.once)

pub returns-clause-order : goal.returns-clause-order
returns-clause-order c = rw (c.new-3.ensures, c.in_ok-base-2.ensures.ok, c.in_ok-base.ensures) (order_of-none _)
