use Rattle.std.proofs.Common.{ap, length, ◌∙◌, sym, subst}
use Rattle.page_store.specs.Pages.{joined, ArePages}
use Rattle.page_store.specs.Under.{under}
use Rattle.page_store.proofs.Pieces.{appended, stayed, on_err}
use Rattle.page_store.proofs.pages.append.Goals as goal

pub push_item-requires-clause-laid : goal.push_item-requires-clause-laid
push_item-requires-clause-laid g c = record { paged = c.in_ok-lay_out.ensures.paged; counted = ap length c.in_ok-lay_out.ensures.ok ∙ c.requires.store.counted }

pub returns-in_err-push_item-clause-same : goal.returns-in_err-push_item-clause-same
returns-in_err-push_item-clause-same g c =
    let paged = subst ArePages (sym c.in_err-push_item.ensures.err) c.in_ok-lay_out.ensures.paged in
    on_err _ (stayed (under c.args.base.now c.args.settled.now) c.lay_out.new.pages.items c.push_item.new.pages.items c.args.len _ c.in_ok-lay_out.ensures.ok c.requires.store.counted paged (ap joined c.in_err-push_item.ensures.err)).0

pub returns-in_err-push_item-clause-err : goal.returns-in_err-push_item-clause-err
returns-in_err-push_item-clause-err g c =
    let paged = subst ArePages (sym c.in_err-push_item.ensures.err) c.in_ok-lay_out.ensures.paged in
    on_err _ (stayed (under c.args.base.now c.args.settled.now) c.lay_out.new.pages.items c.push_item.new.pages.items c.args.len _ c.in_ok-lay_out.ensures.ok c.requires.store.counted paged (ap joined c.in_err-push_item.ensures.err)).1

pub returns-clause-store : goal.returns-clause-store
returns-clause-store g c = (appended (under c.args.base.now c.args.settled.now) c.lay_out.new.pages.items c.push_item.new.pages.items c.args.len _ c.in_ok-lay_out.ensures.ok c.requires.store.counted c.in_ok-push_item.ensures.ok.0 c.args.item c.in_ok-push_item.ensures.ok.1).0

pub returns-clause-ok : goal.returns-clause-ok
returns-clause-ok g c = (appended (under c.args.base.now c.args.settled.now) c.lay_out.new.pages.items c.push_item.new.pages.items c.args.len _ c.in_ok-lay_out.ensures.ok c.requires.store.counted c.in_ok-push_item.ensures.ok.0 c.args.item c.in_ok-push_item.ensures.ok.1).1
