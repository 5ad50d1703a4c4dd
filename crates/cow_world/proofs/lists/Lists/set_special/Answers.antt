use Rattle.cow_world.proofs.lists.Lists.set_special.Goals as goal

pub set-requires-clause-over : goal.set-requires-clause-over
set-requires-clause-over c = rw (c.deref-2.ensures.value, c.deref.ensures) c.self.invariant.specials

pub invariant_of-self : goal.invariant_of-self
invariant_of-self c = record {
  sectors = c.self.invariant.sectors;
  specials = rw (c.deref-2.ensures.value, c.deref.ensures) at c.set.ensures.over;
  things = c.self.invariant.things;
  thinkers = c.self.invariant.thinkers;
  beside = c.self.invariant.beside;
}
