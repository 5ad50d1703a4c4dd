use Rattle.cow_world.proofs.lists.Lists.stretch_from.Goals as goal

pub stretch_from-requires-clause-list : goal.stretch_from-requires-clause-list
stretch_from-requires-clause-list c = rw (c.deref-2.ensures.value, c.deref.ensures) c.self.invariant.thinkers
