use Rattle.page_store.proofs.store.Store.own_pages.Goals as goal

pub copied-requires : goal.copied-requires
copied-requires g c = rw (c.deref-2.ensures.value, c.deref.ensures) c.self.invariant

pub invariant_of-self : goal.invariant_of-self
invariant_of-self g c = rw c.in_ok-self-inside.ensures (rw c.deref-3.ensures.value at c.over-pages.ensures.over)
