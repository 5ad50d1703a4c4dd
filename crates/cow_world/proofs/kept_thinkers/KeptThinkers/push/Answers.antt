use Rattle.std.proofs.Common.{arith}
use Rattle.page_store.specs.Over.{seen}
use Rattle.cow_world.proofs.KeptPlaces.{many_made, pushed, placed-push}
use Rattle.cow_world.proofs.kept_thinkers.KeptThinkers.push.Goals as goal

pub overflow_add-self : goal.overflow_add-self
overflow_add-self c =
    let list = c.args.self.now in
    omega (arith, c.requires.room, many_made list.made list.revived.items (seen c.args.base.now list.kept))

pub returns-clause-list : goal.returns-clause-list
returns-clause-list c =
    let list = c.args.self.now in
    (c.push.ensures.over, rw c.in_ok-push.ensures.ok (placed-push list.made list.revived.items (seen c.args.base.now list.kept) c.args.thinker c.requires.list.1))

pub returns-clause-ok : goal.returns-clause-ok
returns-clause-ok c =
    let list = c.args.self.now in
    rw c.in_ok-push.ensures.ok (pushed list.made list.revived.items (seen c.args.base.now list.kept) c.args.thinker c.requires.list.1)
