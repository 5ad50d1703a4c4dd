use Rattle.page_store.proofs.store.Store.fork.Goals as goal

pub fork-requires : goal.fork-requires
fork-requires g c = rw (c.deref-2.ensures.value, c.deref.ensures) c.self.invariant

pub invariant_of-self : goal.invariant_of-self
invariant_of-self g c = rw (c.deref-2.ensures.value, c.deref.ensures) at c.fork.ensures.over

pub invariant_of-self-in_err-base : goal.invariant_of-self-in_err-base
invariant_of-self-in_err-base g c = rw (c.deref-2.ensures.value, c.deref.ensures) at c.fork.ensures.over

pub invariant_of-self-2 : goal.invariant_of-self-2
invariant_of-self-2 g c = rw (c.deref-2.ensures.value, c.deref.ensures) at c.fork.ensures.over

pub invariant_of-result : goal.invariant_of-result
invariant_of-result g c = rw c.in_ok-base.ensures (rw (c.deref-2.ensures.value, c.deref.ensures) at c.in_ok-pages.ensures.forked)
