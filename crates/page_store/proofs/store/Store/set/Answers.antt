use Rattle.page_store.proofs.store.Store.set.Goals as goal

pub set-requires-clause-over : goal.set-requires-clause-over
set-requires-clause-over g c = rw (c.deref-2.ensures.value, c.deref.ensures) c.self.invariant

pub invariant_of-self : goal.invariant_of-self
invariant_of-self g c = rw (c.deref-2.ensures.value, c.deref.ensures) at c.set.ensures.over
