use Rattle.std.proofs.Common.{◌≡◌, ◌*◌, ◌/◌, IfOk, take, drop, length, ap, subst, sym, arith}
use Rattle.page_store.specs.Pages.{named_items}
use Rattle.page_store.specs.Under.{under}
use Rattle.page_store.proofs.Pieces.{none_under}
use Rattle.page_store.proofs.settled.Settled.named.Goals as goal

pub returns-then-len-eq0 : goal.returns-then-len-eq0
unfolding under
returns-then-len-eq0 g c =
    let none : length c.args.self.now.tables.items ≡ 0 = omega arith in
    ap (λ xs. take 32 (drop (32 * (c.args.i / 32)) xs)) (sym (none_under _ c.args.base.now c.args.self.now.tables.items none))

pub name_at-requires : goal.name_at-requires
name_at-requires g c = c.table.ensures.settled c.args.base.now c.requires

pub returns : goal.returns
returns g c =
    subst (λ xs. IfOk c.name_at.result (λ named. named_items c.args.base.now named ≡ take 32 (drop (32 * (c.args.i / 32)) xs))) (sym (c.table.ensures.under c.args.base.now)) c.name_at.ensures
