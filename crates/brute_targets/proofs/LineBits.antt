-- Line bits, and those of one more target.
use Rattle.std.proofs.Common.{zero, suc, ◌≡◌, ℕ, ◌+◌, ◌*◌, ◌%◌, ◌^◌, ◌<◌, ◌≤◌, Bool, true, false, ◌&&◌, ◌||◌, max, refl, sym, ◌∙◌, ap, inl, inr, arith, nat_eq, nat_lt, bit_or}
use Rattle.std.specs.Int.{bit_at}
use Rattle.std.proofs.Math.Pow.{pow-lt}
use Rattle.std.proofs.lemmas.Bool.{cases_eq, cases_lt, eq-eqb, ne_eqb, lt-ltb, le-ltb}
use Rattle.std.proofs.lemmas.Nat.Bits.{bit_at_or, bit_at-lt, bit_at-zero, bit_at-pow_same, bit_at-pow_other}
use Rattle.brute_targets.specs.Lines.{has_bit}

greater_bit : (x y z : ℕ) → z ≡ max x y → x < 2 → y < 2 → nat_eq z 1 ≡ (nat_eq x 1 || nat_eq y 1)
greater_bit zero y z is few few' = let same : z ≡ y = omega arith in ap (λ n. nat_eq n 1) same
greater_bit (suc zero) y z is few few' = let same : z ≡ 1 = omega arith in ap (λ n. nat_eq n 1) same
greater_bit (suc (suc x)) y z is few few' = absurd (omega arith)

pub has_bit-or : (a b i : ℕ) → has_bit (bit_or a b) i ≡ (has_bit a i || has_bit b i)
has_bit-or a b i = greater_bit (bit_at a i) (bit_at b i) (bit_at (bit_or a b) i) (bit_at_or a b i) (bit_at-lt a i) (bit_at-lt b i)

has_bit-pow : (i j : ℕ) → has_bit (2 ^ i) j ≡ nat_eq j i
has_bit-pow i j = elim (cases_eq j i) [
  | inl same ↦ rw (same, bit_at-pow_same i, eq-eqb i i refl) refl
  | inr other ↦ rw (bit_at-pow_other i j other, ne_eqb j i other) refl
]

pub has_bit-one : (i j : ℕ) → i < 16 → has_bit (1 * 2 ^ i % 65536) j ≡ nat_eq j i
has_bit-one i j small =
    let below : 2 ^ i < 2 ^ 16 = pow-lt small in
    let whole : 1 * 2 ^ i % 65536 ≡ 2 ^ i = omega arith in
    ap (λ n. has_bit n j) whole ∙ has_bit-pow i j

pub has_bit-none : (i : ℕ) → has_bit 0 i ≡ false
has_bit-none i = ap (λ n. nat_eq n 1) (bit_at-zero i)

-- what is known of the targets below a place, with one more
pub one_more : (at : ℕ → Bool) (i j : ℕ) (this : Bool) → this ≡ at i → (nat_lt j (i + 1) && at j) ≡ ((nat_lt j i && at j) || (this && nat_eq j i))
one_more at i j this is = elim (cases_lt j i) [
  | inl below ↦ let before = lt-ltb j i below in let after = lt-ltb j (i + 1) (omega arith) in let other = ne_eqb j i (omega arith) in
      rw (before, after, other) (either (at j) this)
  | inr not_below ↦ elim (cases_eq j i) [
    | inl same ↦ let before = le-ltb i i (omega arith) in let after = lt-ltb i (i + 1) (omega arith) in let here = eq-eqb i i refl in
        rw (same, before, after, here, is) (whole (at i))
    | inr other ↦ let before = le-ltb j i not_below in let after = le-ltb j (i + 1) (omega arith) in let apart = ne_eqb j i other in
        rw (before, after, apart) (none this)
  ]
]
  where
    either : (a b : Bool) → a ≡ (a || (b && false))
    either true b = refl
    either false true = refl
    either false false = refl

    whole : (a : Bool) → a ≡ (a && true)
    whole true = refl
    whole false = refl

    none : (b : Bool) → false ≡ (b && false)
    none true = refl
    none false = refl

pub below_all : (at : ℕ → Bool) (n j : ℕ) → (n ≤ j → at j ≡ false) → (nat_lt j n && at j) ≡ at j
below_all at n j past = elim (cases_lt j n) [
  | inl below ↦ let t = lt-ltb j n below in rw t refl
  | inr above ↦ let t = le-ltb j n above in rw t (sym (past above))
]

pub below_none : (at : ℕ → Bool) (j : ℕ) → has_bit 0 j ≡ (nat_lt j 0 && at j)
below_none at j = let t = le-ltb j 0 (omega arith) in rw t (has_bit-none j)
