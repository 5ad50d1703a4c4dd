use Rattle.cow_world.proofs.lists.Lists.thinker.Goals as goal

pub get-requires-clause-list : goal.get-requires-clause-list
get-requires-clause-list c = rw (c.deref-2.ensures.value, c.deref.ensures) c.self.invariant.thinkers
