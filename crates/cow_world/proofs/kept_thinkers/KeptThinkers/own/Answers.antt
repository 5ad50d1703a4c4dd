use Rattle.std.proofs.Common.{arith}
use Rattle.page_store.specs.Over.{seen}
use Rattle.cow_world.proofs.KeptPlaces.{many_made}
use Rattle.cow_world.proofs.kept_thinkers.KeptThinkers.own.Goals as goal

pub returns-in_err-entries-clause-most : goal.returns-in_err-entries-clause-most
returns-in_err-entries-clause-most c =
    let list = c.args.self.now in
    omega (arith, c.copied.ensures.most, c.requires.1.few, many_made list.made list.revived.items (seen c.args.base.now list.kept))

pub returns-in_err-from_slice-clause-most : goal.returns-in_err-from_slice-clause-most
returns-in_err-from_slice-clause-most c =
    let list = c.args.self.now in
    omega (arith, c.copied.ensures.most, c.requires.1.few, many_made list.made list.revived.items (seen c.args.base.now list.kept))

pub returns-clause-most : goal.returns-clause-most
returns-clause-most c =
    let list = c.args.self.now in
    omega (arith, c.copied.ensures.most, c.requires.1.few, many_made list.made list.revived.items (seen c.args.base.now list.kept))

pub returns-clause-list : goal.returns-clause-list
returns-clause-list c =
    let over = rw c.deref.ensures.value at c.over.ensures.over in
    let base = rw c.deref.ensures.value at c.over.ensures.seen in
    (over, rw (base, c.in_ok-from_slice.ensures.items, c.deref-2.ensures.value, c.in_ok-entries.ensures.items) c.requires.1)
