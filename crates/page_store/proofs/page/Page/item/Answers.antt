use Rattle.std.proofs.Common.{◌*◌, ◌/◌, ◌∙◌, get_or, refl, ap}
use Rattle.std.proofs.lemmas.Option.{slice_get_read}
use Rattle.std.specs.Arc.{arc_value}
use Rattle.page_store.specs.Under.{under}
use Rattle.page_store.proofs.Pieces.{cut_within, cut_item}
use Rattle.page_store.proofs.page.Page.item.Goals as goal

pub item-requires-clause-within : goal.item-requires-clause-within
item-requires-clause-within g c =
    (cut_within (under c.args.base.now c.args.settled.now) (32 * (c.in-Under.start / 32)) c.args.at (rw c.in-Under.is at c.requires.there)).0

pub item-requires-clause-there : goal.item-requires-clause-there
item-requires-clause-there g c =
    (cut_within (under c.args.base.now c.args.settled.now) (32 * (c.in-Under.start / 32)) c.args.at (rw c.in-Under.is at c.requires.there)).1

pub returns-in-Under : goal.returns-in-Under
returns-in-Under g c =
    rw c.in-Under.is (cut_item (under c.args.base.now c.args.settled.now) (32 * (c.in-Under.start / 32)) c.args.at c.item.result (rw c.in-Under.is at c.requires.there) c.item.ensures)

pub returns-in-Owned : goal.returns-in-Owned
returns-in-Owned g c =
    rw c.in-Owned.is (slice_get_read c.in-Owned.items.items _ c.args.at c.index-as_slice-at.result refl (rw c.in-Owned.is at c.requires.there)
    (c.index-as_slice-at.is ∙ ap (λ items. get_or items c.args.at c.index-as_slice-at.result) c.as_slice.ensures.value))

pub returns-in-Shared : goal.returns-in-Shared
returns-in-Shared g c =
    rw c.in-Shared.is (slice_get_read (arc_value c.in-Shared.items).items _ c.args.at c.index-as_slice-at-in-Shared.result refl (rw c.in-Shared.is at c.requires.there)
    (c.index-as_slice-at-in-Shared.is
    ∙ ap (λ items. get_or items c.args.at c.index-as_slice-at-in-Shared.result) (c.as_slice-in-Shared.ensures.value ∙ ap (λ items. items.items) c.deref.ensures)))
