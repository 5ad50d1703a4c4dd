-- Lifts that are stopped or woken one after the other.
use Rattle.std.proofs.Common.{◌≡◌, ℕ, zero, suc, ◌+◌, ◌-◌, ◌<◌, ◌≤◌, ℤ, List, [], ◌∷◌, ◌++◌, Bool, true, false, length, length-set, refl, sym, ap, ◌∙◌, inl, inr, arith}
use Rattle.std.specs.Prelude.{fold, not}
use Rattle.std.specs.List.{range_with_len}
use Rattle.std.proofs.lemmas.Bool.{cases_Bool}
use Rattle.std.proofs.lemmas.List.Sums.{fold-append}
use Rattle.map_geometry.specs.Lists.{Lists}
use Rattle.cow_world.specs.declared.kept_thinkers.Stretch.{Stretch}
use Rattle.cow_world.specs.declared.records.Thinker.TheVariants.{Ended}
use Rattle.cow_world.specs.Flat.{Gridded, parts, thinker_at}
use Rattle.cow_world.specs.Stretches.{places}
use Rattle.cow_world.proofs.Stretches.{left_places}
use Rattle.mover_start.specs.Lifts.{is_lift_with, with_stopped, lift_turned, lifts_turned}

-- The thinkers from number i up to the last, turned from here, give the whole, and there are as many as there were.
pub record Turned (level : Lists) (tag : ℤ) (to : Bool) (whole : Gridded × Bool) (count last : ℕ) (now : Gridded × Bool) (i : ℕ) : Type 0 where
  pub left : fold (lift_turned level tag to) now (range_with_len i (last - i)) ≡ whole
  pub many : length (parts now.0).thinkers ≡ count

module _ (level : Lists) (tag : ℤ) (to : Bool) where
  count-turned : (now : Gridded × Bool) (i : ℕ) → length (parts (lift_turned level tag to now i).0).thinkers ≡ length (parts now.0).thinkers
  count-turned now i =
      elim (cases_Bool (is_lift_with level tag (not to) (thinker_at now.0 i))) [
        | inl e ↦ rw e (length-set (parts now.0).thinkers i (with_stopped to (thinker_at now.0 i)))
        | inr e ↦ rw e refl
      ]

  count-all : (now : Gridded × Bool) (xs : List ℕ) → length (parts (fold (lift_turned level tag to) now xs).0).thinkers ≡ length (parts now.0).thinkers
  count-all now [] = refl
  count-all now (x ∷ xs) = count-all (lift_turned level tag to now x) xs ∙ count-turned now x

  pub turned_first : (first : Gridded) → Turned level tag to (lifts_turned level tag to first) (length (parts first).thinkers) (length (parts first).thinkers) (first, false) 0
  turned_first first =
      let all : length (parts first).thinkers - 0 ≡ length (parts first).thinkers = omega arith in
      record { left = rw all refl; many = refl }

  pub turned_next : (whole : Gridded × Bool) (count last : ℕ) (now next : Gridded × Bool) (i : ℕ) → Turned level tag to whole count last now i → i < last → next ≡ lift_turned level tag to now i → Turned level tag to whole count last next (i + 1)
  turned_next whole count last now next i turned below is =
      let more : last - i ≡ suc (last - (i + 1)) = omega arith in
      record {
        left = rw is (rw more at turned.left);
        many = rw is (count-turned now i ∙ turned.many);
      }

  pub turned_all : (whole : Gridded × Bool) (count last : ℕ) (now : Gridded × Bool) (i : ℕ) → Turned level tag to whole count last now i → last ≤ i → now ≡ whole
  turned_all whole count last now i turned end =
      let none : last - i ≡ 0 = omega arith in
      rw none at turned.left

  -- a thinker that has ended is none
  turned_none : (to_any : Bool) (now : Gridded × Bool) (i : ℕ) → thinker_at now.0 i ≡ Ended → lift_turned level tag to_any now i ≡ now
  turned_none true now i ended = rw ended refl
  turned_none false now i ended = rw ended refl

  turned_past : (now : Gridded × Bool) (gap from : ℕ) → ((i : ℕ) → from ≤ i → i < from + gap → thinker_at now.0 i ≡ Ended) → fold (lift_turned level tag to) now (range_with_len from gap) ≡ now
  turned_past now zero from ended = refl
  turned_past now (suc gap) from ended =
      let none : lift_turned level tag to now from ≡ now = turned_none to now from (ended from (omega arith) (omega arith)) in
      ap (λ w. fold (lift_turned level tag to) w (range_with_len (from + 1) gap)) none
      ∙ turned_past now gap (from + 1) (λ i above below. ended i (omega arith) (omega arith))

  -- from one stretch to the end of the next
  pub turned_on : (whole : Gridded × Bool) (count from : ℕ) (stretch : Stretch) (now next : Gridded × Bool) → Turned level tag to whole count count now from → from ≤ stretch.start → stretch.start ≤ stretch.end → stretch.end ≤ count → ((i : ℕ) → from ≤ i → i < stretch.start → thinker_at now.0 i ≡ Ended) → next ≡ fold (lift_turned level tag to) now (places stretch) → Turned level tag to whole count count next stretch.end
  turned_on whole count from stretch now next turned begins order within ended is =
      let step = lift_turned level tag to in
      let before = range_with_len from (stretch.start - from) in
      let behind = range_with_len stretch.end (count - stretch.end) in
      let gap : from + (stretch.start - from) ≡ stretch.start = omega arith in
      let passed : fold step now before ≡ now = turned_past now (stretch.start - from) from (λ i above below. ended i above (omega (arith, gap, below))) in
      let goes : fold step now (range_with_len from (count - from)) ≡ fold step next behind =
      ap (λ xs. fold step now xs) (left_places from count stretch begins order within)
      ∙ (fold-append step now before (places stretch ++ behind)
      ∙ (ap (λ w. fold step w (places stretch ++ behind)) passed
      ∙ (fold-append step now (places stretch) behind
      ∙ ap (λ w. fold step w behind) (sym is)))) in
      record {
        left = sym goes ∙ turned.left;
        many = rw is (count-all now (places stretch) ∙ turned.many);
      }
