use Rattle.std.proofs.Common.{◌≡◌, ◌<◌, ◌+◌, ◌*◌, Some, slice_get, length, subst, sym, arith}
use Rattle.page_store.specs.Under.{under}
use Rattle.page_store.proofs.Pieces.{none_under}
use Rattle.page_store.proofs.settled.Settled.item.Goals as goal

pub item_of-requires : goal.item_of-requires
unfolding under
item_of-requires g c =
    let none : length c.args.self.now.tables.items ≡ 0 = omega arith in
    subst (λ xs. 32 * c.args.k + c.args.at < length xs) (none_under _ c.args.base.now c.args.self.now.tables.items none) c.requires.there

pub returns-then-len-eq0 : goal.returns-then-len-eq0
unfolding under
returns-then-len-eq0 g c =
    let none : length c.args.self.now.tables.items ≡ 0 = omega arith in
    subst (λ xs. slice_get xs (32 * c.args.k + c.args.at) ≡ Some c.item_of.result) (sym (none_under _ c.args.base.now c.args.self.now.tables.items none)) c.item_of.ensures

pub item_at-requires-clause-paged : goal.item_at-requires-clause-paged
item_at-requires-clause-paged g c = c.table.ensures.settled c.args.base.now c.requires.settled

pub item_at-requires-clause-there : goal.item_at-requires-clause-there
item_at-requires-clause-there g c = subst (λ xs. 32 * c.args.k + c.args.at < length xs) (c.table.ensures.under c.args.base.now) c.requires.there

pub returns : goal.returns
returns g c = subst (λ xs. slice_get xs (32 * c.args.k + c.args.at) ≡ Some c.item_at.result) (sym (c.table.ensures.under c.args.base.now)) c.item_at.ensures
