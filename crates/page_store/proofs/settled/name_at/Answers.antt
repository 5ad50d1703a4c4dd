use Rattle.std.proofs.Common.{◌≡◌, ◌∙◌, IfOk, ap, sym, subst, length, take, arith}
use Rattle.std.proofs.lemmas.List.{drop_all}
use Rattle.page_store.specs.Pages.{named_items}
use Rattle.page_store.proofs.Pieces.{tabled_past, tabled_cut}
use Rattle.page_store.proofs.settled.name_at.Goals as goal

pub returns-then-k-table : goal.returns-then-k-table
returns-then-k-table g c =
    ap (take 32) (drop_all (length c.args.base.now) c.args.base.now (omega arith)) ∙ sym (tabled_past c.args.base.now c.args.table.now c.requires c.args.k (omega arith))

pub returns : goal.returns
returns g c =
    subst (λ items. IfOk c.named.result (λ named. named_items c.args.base.now named ≡ items))
    (tabled_cut c.args.base.now c.args.table.now c.requires c.args.k c.index-table-k.result (omega arith) c.index-table-k.is)
    (c.named.ensures c.args.base.now)
