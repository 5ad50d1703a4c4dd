-- One bit for each line, in words of 64.
use Rattle.std.proofs.Common.{◌≡◌, ◌≢◌, ℕ, zero, suc, ◌*◌, ◌/◌, ◌%◌, ◌^◌, ◌<◌, ◌≤◌, ◌⊎◌, Bool, true, false, not, ◌||◌, eqb, List, length, get_or, set, replicate, w64, bit_and, bit_or, refl, sym, ap, ◌∙◌, inl, inr, arith}
use Rattle.std.specs.Int.{bit_at}
use Rattle.std.proofs.lemmas.Bool.{cases_lt, cases_eq, eq-eqb, ne_eqb}
use Rattle.std.proofs.lemmas.Nat.{one_shl, pow_pos, mod_below}
use Rattle.std.proofs.lemmas.Nat.Bits.{bit_at-zero, and_pow, bit_at-lt, bit_at_set_same, bit_at_set_other}
use Rattle.std.proofs.lemmas.List.{get_or-set_same, get_or-set_other, get_or-replicate, get_or_past, length-replicate}
use Rattle.block_walk.specs.Steps.{is_marked, IsClear}

zero_or_one : (n : ℕ) → n < 2 → (n ≡ 0) ⊎ (n ≡ 1)
zero_or_one zero small = inl refl
zero_or_one (suc zero) small = inr refl
zero_or_one (suc (suc n)) small = absurd (omega arith)

-- the code's test of a bit
bit_test : (word place : ℕ) → place < 64 → eqb (bit_and word (1 * 2 ^ place % 2 ^ 64)) 0 ≡ not (eqb (bit_at word place) 1)
bit_test word place within = rw (one_shl place 64 within, and_pow word place) (elim (zero_or_one (bit_at word place) (bit_at-lt word place)) [
  | inl none ↦ let nothing : 0 * 2 ^ place ≡ 0 = omega arith in rw (none, nothing) refl
  | inr some ↦ rw some (ne_eqb (1 * 2 ^ place) 0 (let above = pow_pos place in λ gone. omega (arith, above, gone)))
])

or_false : (b : Bool) → b ≡ (b || false)
or_false true = refl
or_false false = refl

or_true : (b : Bool) → true ≡ (b || true)
or_true true = refl
or_true false = refl

-- a line's bit after the bit of another, or of itself, was set
pub bit_set : (met : List ℕ) (line n place new : ℕ) → place ≡ line / 64 → place < length met → new ≡ bit_or (get_or met place 0) (1 * 2 ^ (line % 64) % 2 ^ 64) → is_marked (set met place new) n ≡ (is_marked met n || eqb line n)
unfolding is_marked
bit_set met line n place new at within is = elim (cases_eq (n / 64) place) [
  | inl here ↦
      let read : get_or (set met place new) (n / 64) 0 ≡ new = rw here (get_or-set_same met place new 0 within) in
      let small = mod_below line 64 (omega arith) in
      rw (read, here, is) (elim (cases_eq (n % 64) (line % 64)) [
        | inl same ↦
            let one : line ≡ n = omega (arith, at, here, same) in
            rw (eq-eqb line n one, same, bit_at_set_same w64 (get_or met place 0) (line % 64) small) (or_true _)
        | inr other ↦
            let apart : line ≢ n = λ one. other (ap (λ m. m % 64) (sym one)) in
            rw (ne_eqb line n apart, bit_at_set_other w64 (get_or met place 0) (line % 64) small (n % 64) other) (or_false _)
      ])
  | inr elsewhere ↦
      let apart : line ≢ n = λ one. elsewhere (ap (λ m. m / 64) (sym one) ∙ sym at) in
      rw (ne_eqb line n apart, get_or-set_other met place (n / 64) new 0 elsewhere) (or_false _)
]

-- whether it was set
pub bit_unset : (met : List ℕ) (line place : ℕ) → place ≡ line / 64 → eqb (bit_and (get_or met place 0) (1 * 2 ^ (line % 64) % 2 ^ 64)) 0 ≡ not (is_marked met line)
unfolding is_marked
bit_unset met line place at = rw at (bit_test (get_or met (line / 64) 0) (line % 64) (mod_below line 64 (omega arith)))

not_not : (a b : Bool) → a ≡ not b → not a ≡ b
not_not a true is = rw is refl
not_not a false is = rw is refl

pub bit_is : (met : List ℕ) (n place : ℕ) → place ≡ n / 64 → not (eqb (bit_and (get_or met place 0) (1 * 2 ^ (n % 64) % 2 ^ 64)) 0) ≡ is_marked met n
bit_is met n place at = not_not (eqb (bit_and (get_or met place 0) (1 * 2 ^ (n % 64) % 2 ^ 64)) 0) (is_marked met n) (bit_unset met n place at)

-- what has no bit isn't marked
pub bit_past : (met : List ℕ) (n : ℕ) → length met ≤ n / 64 → is_marked met n ≡ false
unfolding is_marked
bit_past met n past = rw (get_or_past {X = ℕ} met (n / 64) 0 past, bit_at-zero (n % 64)) refl

-- words of zeros mark nothing
pub zeros_clear : (words : ℕ) → IsClear (replicate words 0)
unfolding is_marked
zeros_clear words line = elim (cases_lt (line / 64) words) [
  | inl within ↦ rw (get_or-replicate {A = ℕ} words (line / 64) 0 0 within, bit_at-zero (line % 64)) refl
  | inr past ↦ bit_past (replicate words 0) line (omega (arith, past, length-replicate {A = ℕ} words 0))
]
