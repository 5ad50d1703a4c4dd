use Rattle.std.proofs.Common.{◌≡◌}
use Rattle.std.specs.Arc.{arc_value}
use Rattle.page_store.specs.Over.{seen}
use Rattle.cow_world.specs.KeptThinkers.{thinkers_in}
use Rattle.cow_world.proofs.lists.Lists.fork.Goals as goal

pub fork-requires : goal.fork-requires
fork-requires c = rw (c.deref-2.ensures.value, c.deref.ensures) c.self.invariant.sectors

pub fork-requires-2 : goal.fork-requires-2
fork-requires-2 c = rw (c.deref-4.ensures.value, c.deref-3.ensures) c.self.invariant.specials

pub fork-requires-3 : goal.fork-requires-3
fork-requires-3 c = rw (c.deref-6.ensures.value, c.deref-5.ensures) c.self.invariant.things

pub fork-requires-4 : goal.fork-requires-4
fork-requires-4 c = rw (c.deref-8.ensures.value, c.deref-7.ensures) c.self.invariant.thinkers

pub invariant_of-self : goal.invariant_of-self
invariant_of-self c =
    let lists = c.self.inside in
    let bases = arc_value lists.bases in
    record {
      sectors = rw (c.deref-2.ensures.value, c.deref.ensures) at c.fork.ensures.over;
      specials = c.self.invariant.specials;
      things = c.self.invariant.things;
      thinkers = c.self.invariant.thinkers;
      beside = c.self.invariant.beside;
    }

pub returns-in_err-sectors-clause-kept : goal.returns-in_err-sectors-clause-kept
returns-in_err-sectors-clause-kept c =
    let lists = c.self.inside in
    let bases = arc_value lists.bases in
    let same_sectors : seen bases.sectors.items c.fork.new.self ≡ seen bases.sectors.items lists.sectors = rw (c.deref-2.ensures.value, c.deref.ensures) at c.fork.ensures.kept in
    rw (same_sectors) c.self.view_is

pub invariant_of-self-in_err-specials : goal.invariant_of-self-in_err-specials
invariant_of-self-in_err-specials c =
    let lists = c.self.inside in
    let bases = arc_value lists.bases in
    record {
      sectors = rw (c.deref-2.ensures.value, c.deref.ensures) at c.fork.ensures.over;
      specials = rw (c.deref-4.ensures.value, c.deref-3.ensures) at c.fork-2.ensures.over;
      things = c.self.invariant.things;
      thinkers = c.self.invariant.thinkers;
      beside = c.self.invariant.beside;
    }

pub returns-in_err-specials-clause-kept : goal.returns-in_err-specials-clause-kept
returns-in_err-specials-clause-kept c =
    let lists = c.self.inside in
    let bases = arc_value lists.bases in
    let same_sectors : seen bases.sectors.items c.fork.new.self ≡ seen bases.sectors.items lists.sectors = rw (c.deref-2.ensures.value, c.deref.ensures) at c.fork.ensures.kept in
    let same_specials : seen bases.specials.items c.fork-2.new.self ≡ seen bases.specials.items lists.specials = rw (c.deref-4.ensures.value, c.deref-3.ensures) at c.fork-2.ensures.kept in
    rw (same_sectors, same_specials) c.self.view_is

pub invariant_of-self-in_err-things : goal.invariant_of-self-in_err-things
invariant_of-self-in_err-things c =
    let lists = c.self.inside in
    let bases = arc_value lists.bases in
    let same_things : seen bases.things.items c.fork-3.new.self ≡ seen bases.things.items lists.things = rw (c.deref-6.ensures.value, c.deref-5.ensures) at c.fork-3.ensures.kept in
    record {
      sectors = rw (c.deref-2.ensures.value, c.deref.ensures) at c.fork.ensures.over;
      specials = rw (c.deref-4.ensures.value, c.deref-3.ensures) at c.fork-2.ensures.over;
      things = rw (c.deref-6.ensures.value, c.deref-5.ensures) at c.fork-3.ensures.over;
      thinkers = c.self.invariant.thinkers;
      beside = rw same_things c.self.invariant.beside;
    }

pub returns-in_err-things-clause-kept : goal.returns-in_err-things-clause-kept
returns-in_err-things-clause-kept c =
    let lists = c.self.inside in
    let bases = arc_value lists.bases in
    let same_sectors : seen bases.sectors.items c.fork.new.self ≡ seen bases.sectors.items lists.sectors = rw (c.deref-2.ensures.value, c.deref.ensures) at c.fork.ensures.kept in
    let same_specials : seen bases.specials.items c.fork-2.new.self ≡ seen bases.specials.items lists.specials = rw (c.deref-4.ensures.value, c.deref-3.ensures) at c.fork-2.ensures.kept in
    let same_things : seen bases.things.items c.fork-3.new.self ≡ seen bases.things.items lists.things = rw (c.deref-6.ensures.value, c.deref-5.ensures) at c.fork-3.ensures.kept in
    rw (same_sectors, same_specials, same_things) c.self.view_is

pub invariant_of-self-in_err-thinkers : goal.invariant_of-self-in_err-thinkers
invariant_of-self-in_err-thinkers c =
    let lists = c.self.inside in
    let bases = arc_value lists.bases in
    let same_things : seen bases.things.items c.fork-3.new.self ≡ seen bases.things.items lists.things = rw (c.deref-6.ensures.value, c.deref-5.ensures) at c.fork-3.ensures.kept in
    record {
      sectors = rw (c.deref-2.ensures.value, c.deref.ensures) at c.fork.ensures.over;
      specials = rw (c.deref-4.ensures.value, c.deref-3.ensures) at c.fork-2.ensures.over;
      things = rw (c.deref-6.ensures.value, c.deref-5.ensures) at c.fork-3.ensures.over;
      thinkers = rw (c.deref-8.ensures.value, c.deref-7.ensures) at c.fork-4.ensures.list;
      beside = rw same_things c.self.invariant.beside;
    }

pub returns-in_err-thinkers-clause-kept : goal.returns-in_err-thinkers-clause-kept
returns-in_err-thinkers-clause-kept c =
    let lists = c.self.inside in
    let bases = arc_value lists.bases in
    let same_sectors : seen bases.sectors.items c.fork.new.self ≡ seen bases.sectors.items lists.sectors = rw (c.deref-2.ensures.value, c.deref.ensures) at c.fork.ensures.kept in
    let same_specials : seen bases.specials.items c.fork-2.new.self ≡ seen bases.specials.items lists.specials = rw (c.deref-4.ensures.value, c.deref-3.ensures) at c.fork-2.ensures.kept in
    let same_things : seen bases.things.items c.fork-3.new.self ≡ seen bases.things.items lists.things = rw (c.deref-6.ensures.value, c.deref-5.ensures) at c.fork-3.ensures.kept in
    let same_thinkers : thinkers_in bases.thinkers.items c.fork-4.new.self ≡ thinkers_in bases.thinkers.items lists.thinkers = rw (c.deref-8.ensures.value, c.deref-7.ensures) at c.fork-4.ensures.kept in
    rw (same_sectors, same_specials, same_things, same_thinkers) c.self.view_is

pub invariant_of-self-2 : goal.invariant_of-self-2
invariant_of-self-2 c =
    let lists = c.self.inside in
    let bases = arc_value lists.bases in
    let same_things : seen bases.things.items c.fork-3.new.self ≡ seen bases.things.items lists.things = rw (c.deref-6.ensures.value, c.deref-5.ensures) at c.fork-3.ensures.kept in
    record {
      sectors = rw (c.deref-2.ensures.value, c.deref.ensures) at c.fork.ensures.over;
      specials = rw (c.deref-4.ensures.value, c.deref-3.ensures) at c.fork-2.ensures.over;
      things = rw (c.deref-6.ensures.value, c.deref-5.ensures) at c.fork-3.ensures.over;
      thinkers = rw (c.deref-8.ensures.value, c.deref-7.ensures) at c.fork-4.ensures.list;
      beside = rw same_things c.self.invariant.beside;
    }

pub returns-clause-kept : goal.returns-clause-kept
returns-clause-kept c =
    let lists = c.self.inside in
    let bases = arc_value lists.bases in
    let same_sectors : seen bases.sectors.items c.fork.new.self ≡ seen bases.sectors.items lists.sectors = rw (c.deref-2.ensures.value, c.deref.ensures) at c.fork.ensures.kept in
    let same_specials : seen bases.specials.items c.fork-2.new.self ≡ seen bases.specials.items lists.specials = rw (c.deref-4.ensures.value, c.deref-3.ensures) at c.fork-2.ensures.kept in
    let same_things : seen bases.things.items c.fork-3.new.self ≡ seen bases.things.items lists.things = rw (c.deref-6.ensures.value, c.deref-5.ensures) at c.fork-3.ensures.kept in
    let same_thinkers : thinkers_in bases.thinkers.items c.fork-4.new.self ≡ thinkers_in bases.thinkers.items lists.thinkers = rw (c.deref-8.ensures.value, c.deref-7.ensures) at c.fork-4.ensures.kept in
    rw (same_sectors, same_specials, same_things, same_thinkers) c.self.view_is

pub invariant_of-result : goal.invariant_of-result
invariant_of-result c =
    let lists = c.self.inside in
    let bases = arc_value lists.bases in
    let same_things : seen bases.things.items c.in_ok-things.things ≡ seen bases.things.items lists.things = rw (c.deref-6.ensures.value, c.deref-5.ensures) at c.in_ok-things.ensures.same in
    rw c.in_ok-bases.ensures (record {
      sectors = rw (c.deref-2.ensures.value, c.deref.ensures) at c.in_ok-sectors.ensures.forked;
      specials = rw (c.deref-4.ensures.value, c.deref-3.ensures) at c.in_ok-specials.ensures.forked;
      things = rw (c.deref-6.ensures.value, c.deref-5.ensures) at c.in_ok-things.ensures.forked;
      thinkers = rw (c.deref-8.ensures.value, c.deref-7.ensures) at c.in_ok-thinkers.ensures.forked;
      beside = rw same_things c.self.invariant.beside;
    })
