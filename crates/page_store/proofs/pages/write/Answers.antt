use Rattle.page_store.specs.Under.{under}
use Rattle.page_store.proofs.Pieces.{wrote, stayed, on_err}
use Rattle.page_store.proofs.pages.write.Goals as goal

pub set_item-requires-clause-there : goal.set_item-requires-clause-there
set_item-requires-clause-there g c = rw c.in_ok-lay_out.ensures.ok c.requires.there

pub returns-in_err-set_item-clause-store : goal.returns-in_err-set_item-clause-store
returns-in_err-set_item-clause-store g c = (stayed (under c.args.base.now c.args.settled.now) c.lay_out.new.pages.items c.set_item.new.pages.items c.args.len _ c.in_ok-lay_out.ensures.ok c.requires.store.counted c.set_item.ensures.paged c.in_err-set_item.ensures.err).0

pub returns-in_err-set_item-clause-err : goal.returns-in_err-set_item-clause-err
returns-in_err-set_item-clause-err g c = on_err _ (stayed (under c.args.base.now c.args.settled.now) c.lay_out.new.pages.items c.set_item.new.pages.items c.args.len _ c.in_ok-lay_out.ensures.ok c.requires.store.counted c.set_item.ensures.paged c.in_err-set_item.ensures.err).1

pub returns-clause-store : goal.returns-clause-store
returns-clause-store g c = (wrote (under c.args.base.now c.args.settled.now) c.lay_out.new.pages.items c.set_item.new.pages.items c.args.len _ c.in_ok-lay_out.ensures.ok c.requires.store.counted c.set_item.ensures.paged c.args.i c.args.item c.in_ok-set_item.ensures.ok).0

pub returns-clause-ok : goal.returns-clause-ok
returns-clause-ok g c = (wrote (under c.args.base.now c.args.settled.now) c.lay_out.new.pages.items c.set_item.new.pages.items c.args.len _ c.in_ok-lay_out.ensures.ok c.requires.store.counted c.set_item.ensures.paged c.args.i c.args.item c.in_ok-set_item.ensures.ok).1
