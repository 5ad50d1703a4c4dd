use Rattle.std.proofs.Common.{◌∙◌, sym, arith}
use Rattle.page_store.proofs.Pieces.{tabled_past, tabled_cut}
use Rattle.page_store.proofs.settled.page_at.Goals as goal

pub returns-then-k-table : goal.returns-then-k-table
returns-then-k-table g c = sym (tabled_past c.args.base.now c.args.table.now c.requires c.args.k (omega arith))

pub returns : goal.returns
returns g c = c.items.ensures ∙ tabled_cut c.args.base.now c.args.table.now c.requires c.args.k c.index-table-k.result (omega arith) c.index-table-k.is
