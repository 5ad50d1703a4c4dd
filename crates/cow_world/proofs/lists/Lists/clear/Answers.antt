use Rattle.std.proofs.Common.{refl, arith}
use Rattle.std.specs.Arc.{arc_value}
use Rattle.cow_world.proofs.lists.Lists.clear.Goals as goal

pub invariant_of-self : goal.invariant_of-self
invariant_of-self c =
    let bases = arc_value c.self.inside.bases in
    record {
      sectors = c.clear.ensures.over bases.sectors.items;
      specials = c.clear-2.ensures.over bases.specials.items;
      things = c.clear-3.ensures.over bases.things.items;
      thinkers = c.clear-4.ensures.list bases.thinkers.items;
      beside = rw (c.clear-3.ensures.seen bases.things.items) (record { few = omega arith; there = λ other. absurd (other refl) });
    }
