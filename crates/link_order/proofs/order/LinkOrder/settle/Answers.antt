use Rattle.std.proofs.Common.{subst}
use Rattle.link_order.specs.Links.{Links, EachOnce}
use Rattle.link_order.proofs.Orders.{order_of-none, IsOrder-none}
use Rattle.link_order.proofs.order.LinkOrder.settle.Goals as goal

pub invariant_of-self : goal.invariant_of-self
invariant_of-self c =
    let once = subst (λ (links : Links). EachOnce links.order) c.self.view_is c.self.invariant.once in
    rw (c.new-self-inside.ensures, c.in_ok-self-inside.ensures.ok, c.in_ok-base.ensures) (IsOrder-none _ _ once)

pub returns-clause-order : goal.returns-clause-order
returns-clause-order c = rw (c.new-self-inside.ensures, c.in_ok-self-inside.ensures.ok, c.in_ok-base.ensures) (order_of-none _)
