use Rattle.cow_world.proofs.lists.Lists.set_sector.Goals as goal

pub set-requires-clause-over : goal.set-requires-clause-over
set-requires-clause-over c = rw (c.deref-2.ensures.value, c.deref.ensures) c.self.invariant.sectors

pub invariant_of-self : goal.invariant_of-self
invariant_of-self c = record {
  sectors = rw (c.deref-2.ensures.value, c.deref.ensures) at c.set.ensures.over;
  specials = c.self.invariant.specials;
  things = c.self.invariant.things;
  thinkers = c.self.invariant.thinkers;
  beside = c.self.invariant.beside;
}
