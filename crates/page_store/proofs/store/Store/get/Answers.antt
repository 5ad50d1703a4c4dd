use Rattle.page_store.proofs.store.Store.get.Goals as goal

pub get-requires-clause-over : goal.get-requires-clause-over
get-requires-clause-over g c = rw (c.deref-2.ensures.value, c.deref.ensures) c.self.invariant
