use Rattle.std.proofs.Common.{◌≡◌, ◌≢◌, set, sym, ap}
use Rattle.std.specs.Arc.{arc_value}
use Rattle.page_store.specs.Over.{seen}
use Rattle.cow_world.specs.Listed.{listed_in}
use Rattle.cow_world.proofs.Aside.{set_twice, set_swap, beside_set}
use Rattle.cow_world.proofs.lists.Lists.set_thing.Goals as goal

pub returns-then-i-self-clause-ok : goal.returns-then-i-self-clause-ok
returns-then-i-self-clause-ok c =
    let lists = c.self.inside in
    let things = seen (arc_value lists.bases).things.items lists.things in
    let here : c.args.i ≡ lists.place = c.if-i-self.true in
    rw (← c.self.view_is, here) (ap (λ xs. record (listed_in lists) { things = xs }) (sym (set_twice things lists.place lists.own c.args.to)))

pub set-requires-clause-over : goal.set-requires-clause-over
set-requires-clause-over c = rw (c.deref-2.ensures.value, c.deref.ensures) c.self.invariant.things

pub invariant_of-self-in_err-set : goal.invariant_of-self-in_err-set
invariant_of-self-in_err-set c =
    let lists = c.self.inside in
    let stays : seen (arc_value lists.bases).things.items c.set.new.self ≡ seen (arc_value lists.bases).things.items lists.things = rw (c.deref-2.ensures.value, c.deref.ensures) at c.in_err-set.ensures.err in
    record {
      sectors = c.self.invariant.sectors;
      specials = c.self.invariant.specials;
      things = rw (c.deref-2.ensures.value, c.deref.ensures) at c.set.ensures.over;
      thinkers = c.self.invariant.thinkers;
      beside = rw stays c.self.invariant.beside;
    }

pub invariant_of-self-2 : goal.invariant_of-self-2
invariant_of-self-2 c =
    let lists = c.self.inside in
    let things = seen (arc_value lists.bases).things.items lists.things in
    let wrote : seen (arc_value lists.bases).things.items c.set.new.self ≡ set things c.args.i c.args.to = rw (c.deref-2.ensures.value, c.deref.ensures) at c.in_ok-set.ensures.ok in
    record {
      sectors = c.self.invariant.sectors;
      specials = c.self.invariant.specials;
      things = rw (c.deref-2.ensures.value, c.deref.ensures) at c.set.ensures.over;
      thinkers = c.self.invariant.thinkers;
      beside = rw wrote (beside_set things lists.place c.args.i c.args.to c.self.invariant.beside);
    }

pub returns-clause-ok : goal.returns-clause-ok
returns-clause-ok c =
    let lists = c.self.inside in
    let things = seen (arc_value lists.bases).things.items lists.things in
    let other : c.args.i ≢ lists.place = c.if-i-self.false in
    let wrote : seen (arc_value lists.bases).things.items c.set.new.self ≡ set things c.args.i c.args.to = rw (c.deref-2.ensures.value, c.deref.ensures) at c.in_ok-set.ensures.ok in
    rw (wrote, ← c.self.view_is) (ap (λ xs. record (listed_in lists) { things = xs }) (set_swap things c.args.i lists.place c.args.to lists.own other))
