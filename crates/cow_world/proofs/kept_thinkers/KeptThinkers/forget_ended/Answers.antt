use Rattle.std.proofs.Common.{arith}
use Rattle.page_store.specs.Over.{seen}
use Rattle.cow_world.proofs.KeptPlaces.{many_made, forgotten, placed-forgotten}
use Rattle.cow_world.proofs.kept_thinkers.KeptThinkers.forget_ended.Goals as goal

pub returns-in_err-self-clause-most : goal.returns-in_err-self-clause-most
returns-in_err-self-clause-most c =
    let list = c.args.self.now in
    omega (arith, c.running.ensures.most, c.requires.1.few, many_made list.made list.revived.items (seen c.args.base.now list.kept))

pub returns-clause-list : goal.returns-clause-list
returns-clause-list c =
    let list = c.args.self.now in
    (c.in_ok-self.ensures.over, rw c.in_ok-self.ensures.running (placed-forgotten list.made list.revived.items (seen c.args.base.now list.kept) c.requires.1))

pub returns-clause-same : goal.returns-clause-same
returns-clause-same c =
    let list = c.args.self.now in
    rw c.in_ok-self.ensures.running (forgotten list.made list.revived.items (seen c.args.base.now list.kept) c.requires.1.rise)

pub returns-clause-most : goal.returns-clause-most
returns-clause-most c =
    let list = c.args.self.now in
    omega (arith, c.running.ensures.most, c.requires.1.few, many_made list.made list.revived.items (seen c.args.base.now list.kept))
