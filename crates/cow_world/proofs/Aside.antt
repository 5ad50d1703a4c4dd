-- A list with one entry laid over it.
use Rattle.std.proofs.Common.{◌≡◌, ◌≢◌, ℕ, zero, suc, ◌+◌, ◌<◌, ◌≤◌, ◌^◌, List, [], ◌∷◌, ◌++◌, length, set, slice_get, Some, refl, sym, ap, ◌∙◌, inl, inr, arith, length-append}
use Rattle.std.proofs.lemmas.Bool.{cases_lt, cases_eq}
use Rattle.std.proofs.lemmas.List.{length-set, set_past, set-append_left, get_or-set_same, get_or-set_other}
use Rattle.std.proofs.lemmas.Option.{slice_get-get_or, get_or_from_slice_get}
use Rattle.cow_world.specs.declared.records.Thing.{Thing}
use Rattle.cow_world.specs.Beside.{IsBeside}

-- two writes to one place
pub set_twice : {X : Type 0} (xs : List X) (i : ℕ) (x y : X) → set (set xs i x) i y ≡ set xs i y
set_twice [] i x y = refl
set_twice (z ∷ xs) zero x y = refl
set_twice (z ∷ xs) (suc i) x y = ap (λ rest. z ∷ rest) (set_twice xs i x y)

-- and to two places
pub set_swap : {X : Type 0} (xs : List X) (i j : ℕ) (x y : X) → i ≢ j → set (set xs i x) j y ≡ set (set xs j y) i x
set_swap [] i j x y apart = refl
set_swap (z ∷ xs) zero zero x y apart = absurd (apart refl)
set_swap (z ∷ xs) zero (suc j) x y apart = refl
set_swap (z ∷ xs) (suc i) zero x y apart = refl
set_swap (z ∷ xs) (suc i) (suc j) x y apart = ap (λ rest. z ∷ rest) (set_swap xs i j x y (λ same. apart (ap suc same)))

-- the entry that is laid over
pub read_over : {X : Type 0} (xs : List X) (place : ℕ) (own : X) → place < length xs → slice_get (set xs place own) place ≡ Some own
read_over xs place own there = slice_get-get_or (set xs place own) place own (omega (arith, length-set xs place own)) ∙ ap Some (get_or-set_same xs place own own there)

-- and another one
pub read_beside : {X : Type 0} (xs : List X) (place i : ℕ) (own x : X) → i ≢ place → i < length xs → slice_get xs i ≡ Some x → slice_get (set xs place own) i ≡ Some x
read_beside xs place i own x other there is =
    slice_get-get_or (set xs place own) i x (omega (arith, length-set xs place own))
    ∙ ap Some (get_or-set_other xs place i own x other ∙ get_or_from_slice_get xs i x x is)

-- one more entry behind them
pub push_beside : (xs : List Thing) (place : ℕ) (own x : Thing) → IsBeside xs place → length xs + 1 < 2 ^ 32 → set (xs ++ x ∷ []) place own ≡ set xs place own ++ x ∷ []
push_beside xs place own x beside room = elim (cases_lt place (length xs)) [
  | inl there ↦ set-append_left xs (x ∷ []) place own there
  | inr past ↦
      let long = length-append xs (x ∷ []) in
      let none : length (xs ++ x ∷ []) ≤ place = elim (cases_eq place 4294967295) [
        | inl same ↦ omega (arith, long, room, same)
        | inr other ↦ absurd (omega (arith, past, beside.there other))
      ] in
      set_past (xs ++ x ∷ []) place own none ∙ ap (λ ys. ys ++ x ∷ []) (sym (set_past xs place own past))
]

-- the place is still that of a thing after a write, and behind one more
pub beside_set : (xs : List Thing) (place i : ℕ) (x : Thing) → IsBeside xs place → IsBeside (set xs i x) place
beside_set xs place i x beside =
    let long = length-set xs i x in
    record { few = omega (arith, long, beside.few); there = λ other. omega (arith, long, beside.there other) }

pub beside_push : (xs : List Thing) (place : ℕ) (x : Thing) → IsBeside xs place → length xs + 1 < 2 ^ 32 → IsBeside (xs ++ x ∷ []) place
beside_push xs place x beside room =
    let long = length-append xs (x ∷ []) in
    record { few = omega (arith, long, room); there = λ other. omega (arith, long, beside.there other) }
