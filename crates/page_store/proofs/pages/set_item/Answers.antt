use Rattle.std.proofs.Common.{◌∙◌, ◌/◌, length, arith, ap, length-set}
use Rattle.page_store.specs.Pages.{joined}
use Rattle.page_store.specs.Under.{under}
use Rattle.page_store.proofs.Pieces.{place_of, item_within, paged_after, pieces_stay, page_small, written, on_err}
use Rattle.page_store.proofs.pages.set_item.Goals as goal

pub index_mut-requires : goal.index_mut-requires
index_mut-requires g c = let there = place_of (under c.args.base.now c.args.settled.now) c.args.pages.now.items c.args.i c.requires.paged c.requires.there in omega (arith, there.0)

pub set-requires-clause-there : goal.set-requires-clause-there
set-requires-clause-there g c = item_within (under c.args.base.now c.args.settled.now) c.args.pages.now.items c.args.i c.index_mut.result.now c.requires.paged c.requires.there c.index_mut.ensures.value

pub returns-in_err-set-clause-paged : goal.returns-in_err-set-clause-paged
returns-in_err-set-clause-paged g c =
    let there = place_of (under c.args.base.now c.args.settled.now) c.args.pages.now.items c.args.i c.requires.paged c.requires.there in
    paged_after (under c.args.base.now c.args.settled.now) c.args.pages.now.items (c.args.i / 32) c.index_mut.result.now c.set.new.self c.requires.paged there.0 c.index_mut.ensures.value (ap length c.in_err-set.ensures.err)

pub returns-in_err-set-clause-err : goal.returns-in_err-set-clause-err
returns-in_err-set-clause-err g c =
    let there = place_of (under c.args.base.now c.args.settled.now) c.args.pages.now.items c.args.i c.requires.paged c.requires.there in
    on_err _ (ap joined (pieces_stay (under c.args.base.now c.args.settled.now) c.args.pages.now.items (c.args.i / 32) c.index_mut.result.now c.set.new.self there.0 c.index_mut.ensures.value c.in_err-set.ensures.err))

pub returns-in_err-set-clause-most : goal.returns-in_err-set-clause-most
returns-in_err-set-clause-most g c =
    let there = place_of (under c.args.base.now c.args.settled.now) c.args.pages.now.items c.args.i c.requires.paged c.requires.there in
    omega (arith, c.set.ensures.most, page_small (under c.args.base.now c.args.settled.now) c.args.pages.now.items (c.args.i / 32) c.index_mut.result.now c.requires.paged there.0 c.index_mut.ensures.value)

pub returns-clause-paged : goal.returns-clause-paged
returns-clause-paged g c =
    let there = place_of (under c.args.base.now c.args.settled.now) c.args.pages.now.items c.args.i c.requires.paged c.requires.there in
    paged_after (under c.args.base.now c.args.settled.now) c.args.pages.now.items (c.args.i / 32) c.index_mut.result.now c.set.new.self c.requires.paged there.0 c.index_mut.ensures.value
    (ap length c.in_ok-set.ensures.ok ∙ length-set _ _ _)

pub returns-clause-ok : goal.returns-clause-ok
returns-clause-ok g c =
    written (under c.args.base.now c.args.settled.now) c.args.pages.now.items c.args.i c.index_mut.result.now c.set.new.self c.args.item c.requires.paged c.requires.there c.index_mut.ensures.value c.in_ok-set.ensures.ok

pub returns-clause-most : goal.returns-clause-most
returns-clause-most g c =
    let there = place_of (under c.args.base.now c.args.settled.now) c.args.pages.now.items c.args.i c.requires.paged c.requires.there in
    omega (arith, c.set.ensures.most, page_small (under c.args.base.now c.args.settled.now) c.args.pages.now.items (c.args.i / 32) c.index_mut.result.now c.requires.paged there.0 c.index_mut.ensures.value)
