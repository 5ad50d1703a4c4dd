use Rattle.std.proofs.Common.{◌≡◌}
use Rattle.page_store.specs.Over.{seen}
use Rattle.cow_world.proofs.lists.Lists.of.Goals as goal

pub invariant_of-result : goal.invariant_of-result
invariant_of-result c =
    let things = c.args.bases.things.items in
    let same : seen things c.over-3.result ≡ things = rw c.deref-4.ensures.value at c.over-3.ensures.seen in
    rw c.in_ok-new.ensures.ok (record {
      sectors = rw c.deref-2.ensures.value at c.over.ensures.over;
      specials = rw c.deref-3.ensures.value at c.over-2.ensures.over;
      things = rw c.deref-4.ensures.value at c.over-3.ensures.over;
      thinkers = c.requires.thinkers;
      beside = rw same (rw c.deref.ensures.value at c.beside-place.ensures.beside);
    })
