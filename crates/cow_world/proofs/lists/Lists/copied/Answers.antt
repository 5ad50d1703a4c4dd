use Rattle.cow_world.proofs.lists.Lists.copied.Goals as goal

pub copied-requires : goal.copied-requires
copied-requires c = rw (c.deref-2.ensures.value, c.deref.ensures) c.self.invariant.sectors

pub copied-requires-2 : goal.copied-requires-2
copied-requires-2 c = rw (c.deref-4.ensures.value, c.deref-3.ensures) c.self.invariant.specials

pub copied-requires-3 : goal.copied-requires-3
copied-requires-3 c = rw (c.deref-6.ensures.value, c.deref-5.ensures) c.self.invariant.things

pub own-requires : goal.own-requires
own-requires c = rw (c.deref-8.ensures.value, c.deref-7.ensures) c.self.invariant.thinkers
