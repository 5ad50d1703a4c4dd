use Rattle.std.proofs.Common.{◌≡◌, ◌*◌, ◌/◌, ◌∙◌, take, drop, length, ap, sym, arith}
use Rattle.page_store.proofs.Pieces.{none_under}
use Rattle.page_store.specs.Under.{under}
use Rattle.page_store.proofs.settled.Settled.page.Goals as goal

pub returns-then-len-eq0 : goal.returns-then-len-eq0
unfolding under
returns-then-len-eq0 g c =
    let none : length c.args.self.now.tables.items ≡ 0 = omega arith in
    c.part_of.ensures ∙ ap (λ xs. take 32 (drop (32 * (c.args.i / 32)) xs)) (sym (none_under _ c.args.base.now c.args.self.now.tables.items none))

pub page_at-requires : goal.page_at-requires
page_at-requires g c = c.table.ensures.settled c.args.base.now c.requires

pub returns : goal.returns
returns g c = c.page_at.ensures ∙ ap (λ xs. take 32 (drop (32 * (c.args.i / 32)) xs)) (sym (c.table.ensures.under c.args.base.now))
