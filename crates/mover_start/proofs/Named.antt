-- The thinker that was pushed last.
use Rattle.std.proofs.Common.{◌≡◌, ℕ, [], length, Some, sym, ap, ◌∙◌}
use Rattle.std.proofs.lemmas.List.{get_or_at}
use Rattle.cow_world.specs.declared.records.Thinker.{Thinker}
use Rattle.cow_world.specs.declared.records.Thinker.TheVariants.{Ended}
use Rattle.cow_world.specs.Thinkers.{moved_by}
use Rattle.cow_world.specs.Flat.{Gridded, parts, thinker_at, push_thinker}

-- it stands at the place that was free, and moves its sector
pub named_last : (world pushed : Gridded) (mover : Thinker) (place sector : ℕ) → pushed ≡ push_thinker world mover → place ≡ length (parts world).thinkers → moved_by mover ≡ Some sector → moved_by (thinker_at pushed place) ≡ Some sector
named_last world pushed mover place sector is last moves =
    let reads : thinker_at pushed place ≡ mover = ap (λ (w : Gridded). thinker_at w place) is ∙ get_or_at (parts world).thinkers mover [] Ended place (sym last) in
    ap moved_by reads ∙ moves
