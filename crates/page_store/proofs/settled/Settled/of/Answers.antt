use Rattle.std.proofs.Common.{◌∙◌, ◌∷◌, ◌++◌, [], ap, sym, subst}
use Rattle.page_store.specs.Pages.{named_pieces, joined, ArePages}
use Rattle.page_store.specs.Under.{under, AreSettled}
use Rattle.page_store.proofs.Pieces.{single_under, single_tabled}
use Rattle.page_store.proofs.settled.Settled.of.Goals as goal

pub returns-clause-under : goal.returns-clause-under
unfolding under
returns-clause-under g c base =
    single_under _ base c.push.new.self.items c.in_ok-new.field-0 (c.in_ok-push.ensures.items ∙ ap (λ tables. tables ++ c.in_ok-new.field-0 ∷ []) c.in_ok-tables.ensures.items)
    ∙ ap (λ table. joined (named_pieces base table.items)) c.in_ok-new.ensures.ok

pub returns-clause-settled : goal.returns-clause-settled
unfolding AreSettled
returns-clause-settled g c base paged =
    single_tabled _ base c.push.new.self.items c.in_ok-new.field-0 (c.in_ok-push.ensures.items ∙ ap (λ tables. tables ++ c.in_ok-new.field-0 ∷ []) c.in_ok-tables.ensures.items)
    (subst (λ table. ArePages (named_pieces base table.items)) (sym c.in_ok-new.ensures.ok) paged)
