use Rattle.cow_world.proofs.lists.Lists.push_thinker.Goals as goal

pub push-requires-clause-list : goal.push-requires-clause-list
push-requires-clause-list c = rw (c.deref-2.ensures.value, c.deref.ensures) c.self.invariant.thinkers

pub invariant_of-self : goal.invariant_of-self
invariant_of-self c = record {
  sectors = c.self.invariant.sectors;
  specials = c.self.invariant.specials;
  things = c.self.invariant.things;
  thinkers = rw (c.deref-2.ensures.value, c.deref.ensures) at c.push.ensures.list;
  beside = c.self.invariant.beside;
}
