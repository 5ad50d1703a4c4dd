use Rattle.std.proofs.Common.{◌<◌, subst, sym, IfSome}
use Rattle.link_order.specs.Links.{Links}
use Rattle.link_order.proofs.Orders.{order_of-in_front, IsOrder-in_front, once_in_front_part}
use Rattle.link_order.proofs.order.LinkOrder.link.Goals as goal

pub put_first-requires-clause-once : goal.put_first-requires-clause-once
put_first-requires-clause-once c = once_in_front_part c.self.inside.recent _ c.self.invariant.once

pub invariant_of-self : goal.invariant_of-self
invariant_of-self c =
    let P = λ (links : Links). IfSome c.args.block (λ b. b < links.blocks) in
    let within = subst P (sym c.self.view_is) c.requires.within in
    rw c.put_first.ensures (IsOrder-in_front _ c.self.inside.recent _ _ within c.self.invariant)

pub returns-clause-order : goal.returns-clause-order
returns-clause-order c = rw (← c.self.view_is) (rw c.put_first.ensures (order_of-in_front _ _ _))

pub returns-clause-once : goal.returns-clause-once
returns-clause-once c = (invariant_of-self c).once
