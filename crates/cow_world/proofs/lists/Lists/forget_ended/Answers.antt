use Rattle.cow_world.proofs.lists.Lists.forget_ended.Goals as goal

pub forget_ended-requires : goal.forget_ended-requires
forget_ended-requires c = rw (c.deref-2.ensures.value, c.deref.ensures) c.self.invariant.thinkers

pub invariant_of-self : goal.invariant_of-self
invariant_of-self c = record {
  sectors = c.self.invariant.sectors;
  specials = c.self.invariant.specials;
  things = c.self.invariant.things;
  thinkers = rw (c.deref-2.ensures.value, c.deref.ensures) at c.forget_ended.ensures.list;
  beside = c.self.invariant.beside;
}
