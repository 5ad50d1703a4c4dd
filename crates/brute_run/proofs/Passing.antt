-- The numbers that a test finds to meet, rising, and the first of them.
use Rattle.std.proofs.Common.{◌≡◌, ℕ, zero, suc, ◌+◌, ◌<◌, ◌≤◌, ◌⊎◌, inl, inr, Bool, true, List, ◌∷◌, All, Contains, filter, get_or, slice_get, sym, ap, ◌∙◌, subst, arith, ⊎_elim, true≢false}
use Rattle.std.specs.Prelude.{unwrap_or}
use Rattle.std.specs.List.{range_with_len}
use Rattle.std.specs.List.Sorted.{IsStrictlyIncreasing}
use Rattle.std.proofs.lemmas.Bool.{cond_both, cases_lt}
use Rattle.std.proofs.lemmas.List.Elements.{All-from_get_or, All-filter, All-contains, filter_passes}
use Rattle.std.proofs.lemmas.List.FromFn.{get_or-range_with_len, length-range_with_len}
use Rattle.brute_run.specs.Working.{passing, first_passing}

module _ (p : ℕ → Bool) where
  kept : (a n k : ℕ) → a ≤ k → k < a + n → p k ≡ true → Contains (filter p (range_with_len a n)) k
  kept a zero k low high passes = absurd (omega arith)
  kept a (suc n) k low high passes = cond_both (p a) (a ∷ filter p (range_with_len (a + 1) n)) (filter p (range_with_len (a + 1) n)) (λ xs. Contains xs k)
      (λ first. ⊎_elim (λ (l : a < k). let there = kept (a + 1) n k (omega arith) (omega arith) passes in (suc there.0, omega (arith, there.1), there.2))
      (λ (g : k ≤ a). let same : a ≡ k = omega arith in (0, omega arith, same)) (cases_lt a k))
      (λ none. ⊎_elim (λ (l : a < k). kept (a + 1) n k (omega arith) (omega arith) passes)
      (λ (g : k ≤ a). let same : k ≡ a = omega arith in absurd (true≢false (sym passes ∙ ap p same ∙ none))) (cases_lt a k))

  from_start : (a n : ℕ) → All (λ k. a ≤ k) (filter p (range_with_len a n))
  from_start a n = All-filter p (λ k. a ≤ k) (range_with_len a n) (All-from_get_or (λ k. a ≤ k) (range_with_len a n) 0 (λ i l. omega (arith, get_or-range_with_len a n i 0 (omega (arith, length-range_with_len a n)))))

  -- a number stands before numbers that rise and are greater
  put_before : (a : ℕ) (xs : List ℕ) → All (λ k. a + 1 ≤ k) xs → IsStrictlyIncreasing xs → IsStrictlyIncreasing (a ∷ xs)
  put_before a xs above up zero l = omega (arith, above 0 0 (omega arith))
  put_before a xs above up (suc k) l = let next = up k (omega arith) in let same : suc k + 1 ≡ suc (k + 1) = omega arith in subst (λ (i : ℕ). get_or xs k 0 < get_or (a ∷ xs) i 0) (sym same) next

  rises : (a n : ℕ) → IsStrictlyIncreasing (filter p (range_with_len a n))
  rises a zero = λ k l. absurd (omega arith)
  rises a (suc n) = cond_both (p a) (a ∷ filter p (range_with_len (a + 1) n)) (filter p (range_with_len (a + 1) n)) (λ xs. IsStrictlyIncreasing xs)
      (λ first. put_before a (filter p (range_with_len (a + 1) n)) (from_start (a + 1) n) (rises (a + 1) n)) (λ none. rises (a + 1) n)

  -- the first of them is no more than any, nor than a bound of all
  first_least : (a n count k : ℕ) → a ≤ k → k < a + n → p k ≡ true → unwrap_or (slice_get (filter p (range_with_len a n)) 0) count ≤ k
  first_least a zero count k low high passes = absurd (omega arith)
  first_least a (suc n) count k low high passes = cond_both (p a) (a ∷ filter p (range_with_len (a + 1) n)) (filter p (range_with_len (a + 1) n)) (λ xs. unwrap_or (slice_get xs 0) count ≤ k)
      (λ first. low)
      (λ none. ⊎_elim (λ (l : a < k). first_least (a + 1) n count k (omega arith) (omega arith) passes)
      (λ (g : k ≤ a). let same : k ≡ a = omega arith in absurd (true≢false (sym passes ∙ ap p same ∙ none))) (cases_lt a k))

  first_within : (a n count : ℕ) → a + n ≤ count → unwrap_or (slice_get (filter p (range_with_len a n)) 0) count ≤ count
  first_within a zero count h = omega arith
  first_within a (suc n) count h = cond_both (p a) (a ∷ filter p (range_with_len (a + 1) n)) (filter p (range_with_len (a + 1) n)) (λ xs. unwrap_or (slice_get xs 0) count ≤ count)
      (λ first. omega arith) (λ none. first_within (a + 1) n count (omega arith))

pub has_passing : (test : ℕ → Bool) (count k : ℕ) → k < count → test k ≡ true → Contains (passing test count) k
has_passing test count k l passes = kept test 0 count k (omega arith) (omega arith) passes

pub passes_of : (test : ℕ → Bool) (count k : ℕ) → Contains (passing test count) k → test k ≡ true
passes_of test count k has = All-contains (λ k. test k ≡ true) (passing test count) k (filter_passes test (range_with_len 0 count)) has

pub passing_rises : (test : ℕ → Bool) (count : ℕ) → IsStrictlyIncreasing (passing test count)
passing_rises test count = rises test 0 count

pub passing_within : (test : ℕ → Bool) (count : ℕ) → All (λ k. k < count) (passing test count)
passing_within test count = All-filter test (λ k. k < count) (range_with_len 0 count)
    (All-from_get_or (λ k. k < count) (range_with_len 0 count) 0 (λ i l. omega (arith, l, length-range_with_len 0 count, get_or-range_with_len 0 count i 0 (omega (arith, l, length-range_with_len 0 count)))))

pub first_passing-le : (test : ℕ → Bool) (count k : ℕ) → k < count → test k ≡ true → first_passing test count ≤ k
first_passing-le test count k l passes = first_least test 0 count count k (omega arith) (omega arith) passes

pub first_passing-within : (test : ℕ → Bool) (count : ℕ) → first_passing test count ≤ count
first_passing-within test count = first_within test 0 count count (omega arith)

-- a number that stands in the least word is not below the first
pub word_not_below : (test : ℕ → Bool) (count view_count least : ℕ) (view_meets : List ℕ) → view_count ≡ count → view_meets ≡ passing test count
    → (least ≡ view_count) ⊎ Contains view_meets least → first_passing test count ≤ least
word_not_below test count view_count least view_meets same are known = elim known [
  | inl whole ↦ omega (arith, first_passing-within test count, whole, same)
  | inr has ↦
      let has' : Contains (passing test count) least = subst (λ (ms : List ℕ). Contains ms least) are has in
      first_passing-le test count least (All-contains (λ k. k < count) (passing test count) least (passing_within test count) has') (passes_of test count least has')
]

-- the list is one that a board may be made for
pub board_list : (test : ℕ → Bool) (count n : ℕ) (list : List ℕ) → list ≡ passing test count → n ≡ count → IsStrictlyIncreasing list × All (λ k. k < n) list
board_list test count n list is same = rw (is, same) (passing_rises test count, passing_within test count)
