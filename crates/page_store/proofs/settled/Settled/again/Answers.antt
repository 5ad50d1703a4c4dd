use Rattle.std.proofs.Common.{◌≡◌, ◌∙◌, ◌∷◌, ◌++◌, [], length, ap, sym, subst, arith}
use Rattle.page_store.specs.Pages.{named_pieces, joined, ArePages}
use Rattle.page_store.specs.Under.{under, AreSettled}
use Rattle.page_store.proofs.Pieces.{none_under, none_tabled, one_under, one_tabled, single_under, single_tabled}
use Rattle.page_store.proofs.settled.Settled.again.Goals as goal

pub returns-then-len-eq0-clause-under : goal.returns-then-len-eq0-clause-under
unfolding under
returns-then-len-eq0-clause-under g c base =
    let none : length c.args.self.now.tables.items ≡ 0 = omega arith in
    none_under _ base c.new.result.items (ap length c.new.ensures.items) ∙ sym (none_under _ base c.args.self.now.tables.items none)

pub returns-then-len-eq0-clause-settled : goal.returns-then-len-eq0-clause-settled
unfolding AreSettled
returns-then-len-eq0-clause-settled g c base settled = none_tabled _ base c.new.result.items (ap length c.new.ensures.items)

pub returns-clause-under : goal.returns-clause-under
unfolding under
returns-clause-under g c base =
    single_under _ base c.push.new.self.items c.in_ok-try_clone.field-0 (c.in_ok-push.ensures.items ∙ ap (λ tables. tables ++ c.in_ok-try_clone.field-0 ∷ []) c.in_ok-tables.ensures.items)
    ∙ ap (λ table. joined (named_pieces base table.items)) c.in_ok-try_clone.ensures
    ∙ sym (one_under _ base c.args.self.now.tables.items c.index.result.now (omega arith) c.index.ensures)

pub returns-clause-settled : goal.returns-clause-settled
unfolding AreSettled
returns-clause-settled g c base settled =
    single_tabled _ base c.push.new.self.items c.in_ok-try_clone.field-0 (c.in_ok-push.ensures.items ∙ ap (λ tables. tables ++ c.in_ok-try_clone.field-0 ∷ []) c.in_ok-tables.ensures.items)
    (subst (λ table. ArePages (named_pieces base table.items)) (sym c.in_ok-try_clone.ensures)
    (one_tabled _ base c.args.self.now.tables.items c.index.result.now (omega arith) c.index.ensures settled))
