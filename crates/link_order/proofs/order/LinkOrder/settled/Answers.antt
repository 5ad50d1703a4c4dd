use Rattle.std.proofs.Common.{All, subst}
use Rattle.link_order.specs.Links.{IsWithin}
use Rattle.link_order.specs.Parts.{Settled}
use Rattle.link_order.proofs.Orders.{order_of-within}
use Rattle.link_order.proofs.order.LinkOrder.settled.Goals as goal

pub new-requires : goal.new-requires
new-requires c =
    let P = λ (base : Settled). All (IsWithin base.blocks) base.entries in
    let far = subst P c.deref-2.ensures c.blocks-2.ensures.within in
    rw (c.in_ok-push_fresh.ensures, c.in_ok-entries.ensures.items, c.as_slice-recent.ensures.same, c.deref.ensures)
    (rw (c.blocks-2.ensures.blocks, c.deref-2.ensures)
    (order_of-within _ c.self.inside.recent _ c.self.invariant.within far))
