use Rattle.page_store.proofs.store.Store.from_list.Goals as goal

pub invariant_of-result : goal.invariant_of-result
invariant_of-result g c = rw c.in_ok-shared.ensures (rw c.deref.ensures.value at c.over-pages.ensures.over)
