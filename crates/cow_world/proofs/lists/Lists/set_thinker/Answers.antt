use Rattle.cow_world.proofs.lists.Lists.set_thinker.Goals as goal

pub set-requires-clause-list : goal.set-requires-clause-list
set-requires-clause-list c = rw (c.deref-2.ensures.value, c.deref.ensures) c.self.invariant.thinkers

pub invariant_of-self : goal.invariant_of-self
invariant_of-self c = record {
  sectors = c.self.invariant.sectors;
  specials = c.self.invariant.specials;
  things = c.self.invariant.things;
  thinkers = rw (c.deref-2.ensures.value, c.deref.ensures) at c.set.ensures.list;
  beside = c.self.invariant.beside;
}
