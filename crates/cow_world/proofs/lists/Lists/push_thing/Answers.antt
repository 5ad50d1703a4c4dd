use Rattle.std.proofs.Common.{◌≡◌, ◌<◌, ◌+◌, ◌^◌, [], ◌∷◌, ◌++◌, length, ap, arith}
use Rattle.std.specs.Arc.{arc_value}
use Rattle.std.proofs.lemmas.List.{length-set}
use Rattle.page_store.specs.Over.{seen}
use Rattle.cow_world.specs.Listed.{Listed, listed_in}
use Rattle.cow_world.proofs.Aside.{push_beside, beside_push}
use Rattle.cow_world.proofs.lists.Lists.push_thing.Goals as goal

pub push-requires : goal.push-requires
push-requires c = rw (c.deref-2.ensures.value, c.deref.ensures) c.self.invariant.things

pub invariant_of-self : goal.invariant_of-self
invariant_of-self c =
    let lists = c.self.inside in
    let stays : seen (arc_value lists.bases).things.items c.push.new.self ≡ seen (arc_value lists.bases).things.items lists.things = rw (c.deref-2.ensures.value, c.deref.ensures) at c.in_err-push.ensures.err in
    record {
      sectors = c.self.invariant.sectors;
      specials = c.self.invariant.specials;
      things = rw (c.deref-2.ensures.value, c.deref.ensures) at c.push.ensures.over;
      thinkers = c.self.invariant.thinkers;
      beside = rw stays c.self.invariant.beside;
    }

pub invariant_of-self-2 : goal.invariant_of-self-2
invariant_of-self-2 c =
    let lists = c.self.inside in
    let things = seen (arc_value lists.bases).things.items lists.things in
    let room : length things + 1 < 2 ^ 32 = omega (arith, c.requires, ap (λ (l : Listed). length l.things) c.self.view_is, length-set things lists.place lists.own) in
    let grown : seen (arc_value lists.bases).things.items c.push.new.self ≡ things ++ c.args.thing ∷ [] = rw (c.deref-2.ensures.value, c.deref.ensures) at c.in_ok-push.ensures.ok in
    record {
      sectors = c.self.invariant.sectors;
      specials = c.self.invariant.specials;
      things = rw (c.deref-2.ensures.value, c.deref.ensures) at c.push.ensures.over;
      thinkers = c.self.invariant.thinkers;
      beside = rw grown (beside_push things lists.place c.args.thing c.self.invariant.beside room);
    }

pub returns-clause-ok : goal.returns-clause-ok
returns-clause-ok c =
    let lists = c.self.inside in
    let things = seen (arc_value lists.bases).things.items lists.things in
    let room : length things + 1 < 2 ^ 32 = omega (arith, c.requires, ap (λ (l : Listed). length l.things) c.self.view_is, length-set things lists.place lists.own) in
    let grown : seen (arc_value lists.bases).things.items c.push.new.self ≡ things ++ c.args.thing ∷ [] = rw (c.deref-2.ensures.value, c.deref.ensures) at c.in_ok-push.ensures.ok in
    rw (grown, ← c.self.view_is) (ap (λ xs. record (listed_in lists) { things = xs }) (push_beside things lists.place lists.own c.args.thing c.self.invariant.beside room))
