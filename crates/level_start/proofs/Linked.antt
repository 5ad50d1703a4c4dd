-- The things that are linked, sought one after the other.
use Rattle.std.proofs.Common.{◌≡◌, ℕ, suc, ◌+◌, ◌-◌, ◌<◌, Bool, true, false, List, [], ◌∷◌, ◌++◌, All, refl, sym, ◌∙◌, arith, append_assoc}
use Rattle.std.specs.Prelude.{filter}
use Rattle.std.specs.List.{range_with_len, AllPairs}
use Rattle.std.proofs.lemmas.List.{append-nil}
use Rattle.std.proofs.lemmas.List.Elements.{All-filter}
use Rattle.std.proofs.lemmas.List.FromFn.{length-range_with_len, get_or-range_with_len}
use Rattle.std.proofs.lemmas.List.Kept.{AllPairs-filter}

-- from number i on those that pass the test give what all give
pub record Sought (test : ℕ → Bool) (count : ℕ) (found : List ℕ) (i : ℕ) : Type 0 where
  pub left : found ++ filter test (range_with_len i (count - i)) ≡ filter test (range_with_len 0 count)

pub sought_first : (test : ℕ → Bool) (count : ℕ) → Sought test count [] 0
sought_first test count =
    let all : count - 0 ≡ count = omega arith in
    record { left = rw all refl }

pub sought_none : (test : ℕ → Bool) (count : ℕ) (found : List ℕ) (i : ℕ) → Sought test count found i → i < count → test i ≡ false → Sought test count found (i + 1)
sought_none test count found i sought below fails =
    let more : count - i ≡ suc (count - (i + 1)) = omega arith in
    record { left = rw fails at (rw more at sought.left) }

pub sought_one : (test : ℕ → Bool) (count : ℕ) (found : List ℕ) (i : ℕ) → Sought test count found i → i < count → test i ≡ true → Sought test count (found ++ i ∷ []) (i + 1)
sought_one test count found i sought below holds =
    let more : count - i ≡ suc (count - (i + 1)) = omega arith in
    let left : found ++ i ∷ filter test (range_with_len (i + 1) (count - (i + 1))) ≡ filter test (range_with_len 0 count) = rw holds at (rw more at sought.left) in
    record { left = append_assoc found (i ∷ []) (filter test (range_with_len (i + 1) (count - (i + 1)))) ∙ left }

pub sought_all : (test : ℕ → Bool) (count : ℕ) (found : List ℕ) (i : ℕ) → Sought test count found i → count ≡ i → found ≡ filter test (range_with_len 0 count)
sought_all test count found i sought end =
    let none : count - i ≡ 0 = omega arith in
    let left : found ++ [] ≡ filter test (range_with_len 0 count) = rw none at sought.left in
    sym (append-nil found) ∙ left

-- ---- they are there, and rise

below_range : (count : ℕ) → All (λ x. x < count) (range_with_len 0 count)
below_range count = λ k d below.
    let here : k < count = omega (arith, below, length-range_with_len 0 count) in
    rw (get_or-range_with_len 0 count k d here) (omega (arith, here))

rising_range : (count : ℕ) → AllPairs (λ one other. one < other) (range_with_len 0 count)
rising_range count = λ i j d before below.
    let there : j < count = omega (arith, below, length-range_with_len 0 count) in
    let here : i < count = omega (arith, before, there) in
    rw (get_or-range_with_len 0 count i d here, get_or-range_with_len 0 count j d there) (omega (arith, before))

pub sought_below : (test : ℕ → Bool) (count : ℕ) (found : List ℕ) → found ≡ filter test (range_with_len 0 count) → All (λ x. x < count) found
sought_below test count found is = rw is (All-filter test (λ x. x < count) (range_with_len 0 count) (below_range count))

pub sought_rise : (test : ℕ → Bool) (count : ℕ) (found : List ℕ) → found ≡ filter test (range_with_len 0 count) → AllPairs (λ one other. one < other) found
sought_rise test count found is = rw is (AllPairs-filter (λ one other. one < other) test (range_with_len 0 count) (rising_range count))
