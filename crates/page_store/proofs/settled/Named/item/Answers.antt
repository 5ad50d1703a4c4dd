use Rattle.std.proofs.Common.{◌∙◌, get_or, refl, ap, arith}
use Rattle.std.proofs.lemmas.Option.{slice_get_read}
use Rattle.std.specs.Arc.{arc_value}
use Rattle.page_store.proofs.Pieces.{based_within, based_item}
use Rattle.page_store.proofs.settled.Named.item.Goals as goal

pub offset_bounds-rest-at : goal.offset_bounds-rest-at
offset_bounds-rest-at g c = omega (arith, based_within c.args.base.now c.in-Based.start c.args.at (rw c.in-Based.is at c.requires))

pub bounds-rest-at : goal.bounds-rest-at
bounds-rest-at g c = based_within c.args.base.now c.in-Based.start c.args.at (rw c.in-Based.is at c.requires)

pub returns-in-Based : goal.returns-in-Based
returns-in-Based g c =
    rw c.in-Based.is (based_item c.args.base.now c.in-Based.start c.args.at c.index-rest-at.result (rw c.in-Based.is at c.requires) c.index-rest-at.is)

pub returns-in-Shared : goal.returns-in-Shared
returns-in-Shared g c =
    rw c.in-Shared.is (slice_get_read (arc_value c.in-Shared.items).items _ c.args.at c.index-as_slice-at.result refl (rw c.in-Shared.is at c.requires)
    (c.index-as_slice-at.is
    ∙ ap (λ items. get_or items c.args.at c.index-as_slice-at.result) (c.as_slice.ensures.value ∙ ap (λ items. items.items) c.deref.ensures)))
