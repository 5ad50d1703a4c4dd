use Rattle.std.proofs.Common.{◌≡◌, ◌≢◌, length, ap, arith}
use Rattle.page_store.specs.Under.{under}
use Rattle.page_store.proofs.Pieces.{seen-base, laid_out, halves}
use Rattle.page_store.proofs.pages.item_in.Goals as goal

pub item-requires-clause-there : goal.item-requires-clause-there
item-requires-clause-there g c =
    let none : length c.args.pages.now ≡ 0 = omega arith in
    let more : c.args.len ≢ 0 = omega (arith, c.requires.there, c.requires.store.counted) in
    let its = seen-base (under c.args.base.now c.args.settled.now) c.args.pages.now c.args.len none more in
    omega (arith, halves c.args.i, ap length its, c.requires.there)

pub item_at-requires-clause-paged : goal.item_at-requires-clause-paged
item_at-requires-clause-paged g c = c.requires.store.paged

pub item_at-requires-clause-there : goal.item_at-requires-clause-there
item_at-requires-clause-there g c =
    let its = laid_out (under c.args.base.now c.args.settled.now) c.args.pages.now c.args.len c.requires.store (λ none. absurd (omega (arith, none))) in
    rw its c.requires.there

pub returns : goal.returns
returns g c =
    let its = laid_out (under c.args.base.now c.args.settled.now) c.args.pages.now c.args.len c.requires.store (λ none. absurd (omega (arith, none))) in
    rw (← its) c.item_at.ensures
