use Rattle.std.proofs.Common.{◌<◌, ◌/◌, length, arith}
use Rattle.page_store.specs.Under.{under}
use Rattle.page_store.proofs.Pieces.{pushed, last_is_there, grown, pieces_stay, page_small, on_err}
use Rattle.page_store.proofs.pages.push_item.Goals as goal

pub returns-then-len-eq0-clause-ok : goal.returns-then-len-eq0-clause-ok
returns-then-len-eq0-clause-ok g c =
    rw c.in_ok-push.ensures.items (
    pushed (under c.args.base.now c.args.settled.now) c.args.pages.now.items c.args.len c.in_ok-page.page c.args.item c.requires.laid c.if-len-eq0.true (c.in_ok-page.ensures.ok (under c.args.base.now c.args.settled.now)))

pub index_mut-requires : goal.index_mut-requires
index_mut-requires g c = omega (arith, last_is_there (under c.args.base.now c.args.settled.now) c.args.pages.now.items c.args.len c.requires.laid c.if-len-eq0.false)

pub returns-in_err-push-2-clause-err : goal.returns-in_err-push-2-clause-err
returns-in_err-push-2-clause-err g c =
    let there : c.args.len / 32 < length c.args.pages.now.items = omega (arith, last_is_there (under c.args.base.now c.args.settled.now) c.args.pages.now.items c.args.len c.requires.laid c.if-len-eq0.false) in
    on_err _ (pieces_stay (under c.args.base.now c.args.settled.now) c.args.pages.now.items (c.args.len / 32) c.index_mut.result.now c.push-2.new.self there c.index_mut.ensures.value c.in_err-push-2.ensures.err)

pub returns-in_err-push-2-clause-most : goal.returns-in_err-push-2-clause-most
returns-in_err-push-2-clause-most g c =
    let there : c.args.len / 32 < length c.args.pages.now.items = omega (arith, last_is_there (under c.args.base.now c.args.settled.now) c.args.pages.now.items c.args.len c.requires.laid c.if-len-eq0.false) in
    omega (arith, c.push-2.ensures.most, page_small (under c.args.base.now c.args.settled.now) c.args.pages.now.items (c.args.len / 32) c.index_mut.result.now c.requires.laid.paged there c.index_mut.ensures.value)

pub returns-clause-ok : goal.returns-clause-ok
returns-clause-ok g c =
    grown (under c.args.base.now c.args.settled.now) c.args.pages.now.items c.args.len c.index_mut.result.now c.push-2.new.self c.args.item c.requires.laid c.if-len-eq0.false c.index_mut.ensures.value c.in_ok-push-2.ensures.ok

pub returns-clause-most : goal.returns-clause-most
returns-clause-most g c =
    let there : c.args.len / 32 < length c.args.pages.now.items = omega (arith, last_is_there (under c.args.base.now c.args.settled.now) c.args.pages.now.items c.args.len c.requires.laid c.if-len-eq0.false) in
    omega (arith, c.push-2.ensures.most, page_small (under c.args.base.now c.args.settled.now) c.args.pages.now.items (c.args.len / 32) c.index_mut.result.now c.requires.laid.paged there c.index_mut.ensures.value)
