use Rattle.cow_world.proofs.lists.Lists.thing.Goals as goal

pub get-requires-clause-over : goal.get-requires-clause-over
get-requires-clause-over c = rw (c.deref-2.ensures.value, c.deref.ensures) c.self.invariant.things
