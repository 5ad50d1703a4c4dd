use Rattle.std.proofs.Common.{◌∙◌, ap, sym, subst, arith}
use Rattle.page_store.specs.Pages.{named_pieces, joined, ArePages}
use Rattle.page_store.specs.Under.{under, AreSettled}
use Rattle.page_store.proofs.Pieces.{one_under, one_tabled}
use Rattle.page_store.proofs.settled.Settled.table.Goals as goal

pub returns-clause-under : goal.returns-clause-under
unfolding under
returns-clause-under g c base =
    one_under _ base c.args.self.now.tables.items c.index.result.now (omega (arith, c.requires)) c.index.ensures
    ∙ ap (λ table. joined (named_pieces base table)) (sym (c.as_slice.ensures.value ∙ ap (λ items. items.items) c.deref.ensures))

pub returns-clause-settled : goal.returns-clause-settled
unfolding AreSettled
returns-clause-settled g c base settled =
    subst (λ table. ArePages (named_pieces base table)) (sym (c.as_slice.ensures.value ∙ ap (λ items. items.items) c.deref.ensures))
    (one_tabled _ base c.args.self.now.tables.items c.index.result.now (omega (arith, c.requires)) c.index.ensures settled)
