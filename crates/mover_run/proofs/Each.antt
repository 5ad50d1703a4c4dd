-- A part for each of a list: what is left, from here, gives what the whole gives.
use Rattle.std.proofs.Common.{◌≡◌, ℕ, zero, suc, ◌+◌, ◌-◌, ◌<◌, ◌≤◌, List, [], ◌∷◌, ◌++◌, length, drop, get_or, refl, sym, ap, ◌∙◌, arith, add-one}
use Rattle.std.specs.List.{range_with_len}
use Rattle.std.proofs.Math.Seq.{drop-cons}
use Rattle.game_trait.specs.declared.shown.Halt.{Halt}
use Rattle.cow_world.specs.declared.kept_thinkers.Stretch.{Stretch}
use Rattle.cow_world.specs.Outcome.{Outcome, goes, halts, and_then, each_from, each_from-append}
use Rattle.cow_world.specs.Stretches.{places}
use Rattle.cow_world.proofs.Stretches.{left_places}

module _ {X A : Type 0} (part : X → A → Outcome A) (whole : Outcome A) where
  pub each_next : (now next : A) (x : X) (left rest : List X) → each_from part now left ≡ whole → left ≡ x ∷ rest → part x now ≡ goes next → each_from part next rest ≡ whole
  each_next now next x left rest so_far is goes_on =
      sym (ap (λ o. and_then o (λ last. each_from part last rest)) goes_on) ∙ (rw is at so_far)

  pub each_halts : (now : A) (x : X) (left rest : List X) → each_from part now left ≡ whole → left ≡ x ∷ rest → (reason : Halt) → part x now ≡ halts reason → whole ≡ halts reason
  each_halts now x left rest so_far is reason stops =
      sym (rw is at so_far) ∙ ap (λ o. and_then o (λ last. each_from part last rest)) stops

  pub each_end : (now : A) (left : List X) → each_from part now left ≡ whole → left ≡ [] → whole ≡ goes now
  each_end now left so_far none = sym (rw none at so_far)

-- a list from a place on, and numbers from one on

pub drop_first : (xs : List ℕ) (i : ℕ) → i < length xs → drop i xs ≡ get_or xs i 0 ∷ drop (i + 1) xs
drop_first xs i below = rw (add-one, drop-cons xs i 0) refl

pub range_first : (i end : ℕ) → i < end → range_with_len i (end - i) ≡ i ∷ range_with_len (i + 1) (end - (i + 1))
range_first i end below =
    let more : end - i ≡ suc (end - (i + 1)) = omega arith in
    rw more refl

pub range_none : (i end : ℕ) → end ≡ i → range_with_len i (end - i) ≡ []
range_none i end same =
    let none : end - i ≡ 0 = omega arith in
    rw none refl

-- numbers of which the first do nothing, up to a stretch

module _ {A : Type 0} (part : ℕ → A → Outcome A) where
  each_idle : (now : A) (gap from : ℕ) → ((i : ℕ) → from ≤ i → i < from + gap → part i now ≡ goes now) → each_from part now (range_with_len from gap) ≡ goes now
  each_idle now zero from idle = refl
  each_idle now (suc gap) from idle =
      ap (λ o. and_then o (λ next. each_from part next (range_with_len (from + 1) gap))) (idle from (omega arith) (omega arith))
      ∙ each_idle now gap (from + 1) (λ i above below. idle i (omega arith) (omega arith))

  joined : (now : A) (from count : ℕ) (stretch : Stretch) → from ≤ stretch.start → stretch.start ≤ stretch.end → stretch.end ≤ count → ((i : ℕ) → from ≤ i → i < stretch.start → part i now ≡ goes now)
      → each_from part now (range_with_len from (count - from)) ≡ and_then (each_from part now (places stretch)) (λ next. each_from part next (range_with_len stretch.end (count - stretch.end)))
  joined now from count stretch begins order within idle =
      let before = range_with_len from (stretch.start - from) in
      let behind = range_with_len stretch.end (count - stretch.end) in
      let gap : from + (stretch.start - from) ≡ stretch.start = omega arith in
      let passed = each_idle now (stretch.start - from) from (λ i above below. idle i above (omega (arith, gap, below))) in
      ap (λ xs. each_from part now xs) (left_places from count stretch begins order within)
      ∙ (each_from-append part now before (places stretch ++ behind)
      ∙ (ap (λ o. and_then o (λ next. each_from part next (places stretch ++ behind))) passed
      ∙ each_from-append part now (places stretch) behind))

  pub stretch_next : (whole : Outcome A) (now next : A) (from count : ℕ) (stretch : Stretch) → from ≤ stretch.start → stretch.start ≤ stretch.end → stretch.end ≤ count → ((i : ℕ) → from ≤ i → i < stretch.start → part i now ≡ goes now)
      → each_from part now (range_with_len from (count - from)) ≡ whole → each_from part now (places stretch) ≡ goes next → each_from part next (range_with_len stretch.end (count - stretch.end)) ≡ whole
  stretch_next whole now next from count stretch begins order within idle so_far goes_on =
      sym (joined now from count stretch begins order within idle ∙ ap (λ o. and_then o (λ last. each_from part last (range_with_len stretch.end (count - stretch.end)))) goes_on) ∙ so_far

  pub stretch_halts : (whole : Outcome A) (now : A) (from count : ℕ) (stretch : Stretch) → from ≤ stretch.start → stretch.start ≤ stretch.end → stretch.end ≤ count → ((i : ℕ) → from ≤ i → i < stretch.start → part i now ≡ goes now)
      → each_from part now (range_with_len from (count - from)) ≡ whole → (reason : Halt) → each_from part now (places stretch) ≡ halts reason → whole ≡ halts reason
  stretch_halts whole now from count stretch begins order within idle so_far reason stops =
      sym so_far ∙ (joined now from count stretch begins order within idle ∙ ap (λ o. and_then o (λ last. each_from part last (range_with_len stretch.end (count - stretch.end)))) stops)
