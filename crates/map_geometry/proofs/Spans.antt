-- The whole numbers from one to another.
use Rattle.std.proofs.Common.{lit<, FitsSigned, w32, ◌≡◌, ℕ, zero, suc, ◌+◌, true, false, cond, ℤ, pos, negsuc, ◌+ℤ◌, ◌-ℤ◌, ◌≤ℤ◌, ◌<ℤ◌, List, [], ◌∷◌, map, refl, sym, ap, ◌∙◌, inl, inr, arith}
use Rattle.std.specs.Prelude.{int_le, unsigned_abs}
use Rattle.std.specs.List.{range_with_len}
use Rattle.std.proofs.lemmas.Bool.{cases_Bool}
use Rattle.std.proofs.lemmas.Int.{ints}
use Rattle.map_geometry.specs.Blocks.{span}

-- as many numbers as `count`, from low on
run : ℤ → ℕ → List ℤ
run low zero = []
run low (suc count) = low ∷ run (low +ℤ pos 1) count

run_from : (low : ℤ) (at count : ℕ) → map (λ i. low +ℤ pos i) (range_with_len at count) ≡ run (low +ℤ pos at) count
unfolding run
run_from low at zero = refl
run_from low at (suc count) =
    let next : low +ℤ pos (at + 1) ≡ low +ℤ pos at +ℤ pos 1 = omega (arith, ints) in
    ap (λ xs. (low +ℤ pos at) ∷ xs) (run_from low (at + 1) count ∙ ap (λ z. run z count) next)

pub count_of : ℤ → ℤ → ℕ
count_of low high = cond (int_le low high) (unsigned_abs (high -ℤ low) + 1) 0

span_run : (low high : ℤ) → span low high ≡ run low (count_of low high)
unfolding span count_of
span_run low high =
    let start : low +ℤ pos 0 ≡ low = omega (arith, ints) in
    run_from low 0 (cond (int_le low high) (unsigned_abs (high -ℤ low) + 1) 0) ∙ ap (λ z. run z (cond (int_le low high) (unsigned_abs (high -ℤ low) + 1) 0)) start

none_between : (low high : ℤ) → int_le low high ≡ false → count_of low high ≡ 0
unfolding count_of
none_between low high above = rw above refl

one_fewer : (low high : ℤ) → int_le low high ≡ true → count_of low high ≡ suc (count_of (low +ℤ pos 1) high)
unfolding count_of
one_fewer low high within = grind (arith, ints)

pub span_none : (low high : ℤ) → int_le low high ≡ false → span low high ≡ []
unfolding run
span_none low high above = span_run low high ∙ ap (run low) (none_between low high above)

pub span_first : (low high : ℤ) → int_le low high ≡ true → span low high ≡ low ∷ span (low +ℤ pos 1) high
unfolding run
span_first low high within = span_run low high ∙ (ap (run low) (one_fewer low high within) ∙ ap (λ xs. low ∷ xs) (sym (span_run (low +ℤ pos 1) high)))

-- ---- how many there are

pub count_none : (low high : ℤ) → count_of low high ≡ 0 → int_le low high ≡ false
unfolding count_of
count_none low high none = elim (cases_Bool (int_le low high)) [
  | inl within ↦ absurd (omega (arith, (rw within at none)))
  | inr past ↦ past
]

pub count_some : (n : ℕ) (low high : ℤ) → count_of low high ≡ suc n → (int_le low high ≡ true) × (count_of (low +ℤ pos 1) high ≡ n)
unfolding count_of
count_some n low high some = elim (cases_Bool (int_le low high)) [
  | inl within ↦ (within, (let fewer = one_fewer low high within in omega (arith, some, fewer)))
  | inr past ↦ absurd (let none : 0 ≡ suc n = rw past at some in cc)
]

-- the number after one that is below another is a number of 32 bits
pub next_fits : (low high : ℤ) → FitsSigned w32 low → FitsSigned w32 high → low <ℤ high → FitsSigned w32 (low +ℤ pos 1)
next_fits (pos a) (pos b) low_fits high_fits below = record { sfits = omega (arith, ints, high_fits.sfits) }
next_fits (pos a) (negsuc b) low_fits high_fits below = absurd (omega (arith, ints))
next_fits (negsuc zero) high low_fits high_fits below = record { sfits = lit< tt }
next_fits (negsuc (suc a)) high low_fits high_fits below =
    let next : negsuc (suc a) +ℤ pos 1 ≡ negsuc a = omega (arith, ints) in
    rw next (record { sfits = omega (arith, low_fits.sfits) })

-- no number is left after the last one
pub none_after : (low high : ℤ) → high ≤ℤ low → int_le (low +ℤ pos 1) high ≡ false
none_after low high last = grind (arith, ints)
