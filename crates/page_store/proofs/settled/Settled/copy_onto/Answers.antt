use Rattle.std.proofs.Common.{◌≡◌, ◌≤◌, ◌+◌, ◌++◌, OnOk, length, subst, sym, arith}
use Rattle.page_store.proofs.Pieces.{none_under}
use Rattle.page_store.specs.Under.{under}
use Rattle.page_store.proofs.settled.Settled.copy_onto.Goals as goal

pub returns-then-len-eq0-clause-ok : goal.returns-then-len-eq0-clause-ok
unfolding under
returns-then-len-eq0-clause-ok g c =
    let none : length c.args.self.now.tables.items ≡ 0 = omega arith in
    subst (λ xs. OnOk c.copy_onto.result (c.copy_onto.new.copy.items ≡ c.args.copy.now.items ++ xs)) (sym (none_under _ c.args.base.now c.args.self.now.tables.items none)) c.copy_onto.ensures.ok

pub returns-then-len-eq0-clause-most : goal.returns-then-len-eq0-clause-most
unfolding under
returns-then-len-eq0-clause-most g c =
    let none : length c.args.self.now.tables.items ≡ 0 = omega arith in
    subst (λ xs. c.copy_onto.new.steps.pages ≤ c.args.steps.now.pages + length xs) (sym (none_under _ c.args.base.now c.args.self.now.tables.items none)) c.copy_onto.ensures.most

pub returns-clause-ok : goal.returns-clause-ok
returns-clause-ok g c =
    subst (λ xs. OnOk c.copy_table_onto.result (c.copy_table_onto.new.copy.items ≡ c.args.copy.now.items ++ xs)) (sym (c.table.ensures.under c.args.base.now)) c.copy_table_onto.ensures.ok

pub returns-clause-most : goal.returns-clause-most
returns-clause-most g c =
    subst (λ xs. c.copy_table_onto.new.steps.pages ≤ c.args.steps.now.pages + length xs) (sym (c.table.ensures.under c.args.base.now)) c.copy_table_onto.ensures.most
