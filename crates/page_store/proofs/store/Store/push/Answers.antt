use Rattle.page_store.proofs.store.Store.push.Goals as goal

pub push-requires : goal.push-requires
push-requires g c = rw (c.deref-2.ensures.value, c.deref.ensures) c.self.invariant

pub invariant_of-self : goal.invariant_of-self
invariant_of-self g c = rw (c.deref-2.ensures.value, c.deref.ensures) at c.push.ensures.over
