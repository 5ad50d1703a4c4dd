use Rattle.page_store.specs.Over.{seen}
use Rattle.cow_world.proofs.KeptPlaces.{forked_kept}
use Rattle.cow_world.proofs.kept_thinkers.KeptThinkers.fork.Goals as goal

pub returns-in_err-fork-clause-most : goal.returns-in_err-fork-clause-most
returns-in_err-fork-clause-most c =
    let list = c.args.self.now in
    forked_kept list.made list.revived.items (seen c.args.base.now list.kept) _ _ c.requires.1 c.fork.ensures.most

pub returns-in_err-from_slice-clause-most : goal.returns-in_err-from_slice-clause-most
returns-in_err-from_slice-clause-most c =
    let list = c.args.self.now in
    forked_kept list.made list.revived.items (seen c.args.base.now list.kept) _ _ c.requires.1 c.fork.ensures.most

pub returns-clause-most : goal.returns-clause-most
returns-clause-most c =
    let list = c.args.self.now in
    forked_kept list.made list.revived.items (seen c.args.base.now list.kept) _ _ c.requires.1 c.fork.ensures.most
