-- The rows of doors that are opened by hand.
use Rattle.std.proofs.Common.{◌≡◌, ◌==◌, ℕ, Bool, true, List, [], ◌∷◌, Option, Some, None, IfSome, refl, sym, inl, inr}
use Rattle.std.specs.Prelude.{find, ◌&&◌}
use Rattle.std.proofs.lemmas.Bool.{cases_Bool, and_parts, eqb-true}
use Rattle.mover_start.specs.Manual.{is_manual, IsManual}
use Rattle.line_specials.specs.declared.table.Action.{Action}
use Rattle.line_specials.specs.declared.table.Action.TheVariants.{ByHand}
use Rattle.line_specials.specs.Table.{Row, rows, row_of}

-- a row by hand has the number of a manual door
abbrev is_right : ℕ → Action → Bool
is_right number ByHand = is_manual number
is_right number other = true

abbrev are_right : List Row → Bool
are_right [] = true
are_right (row ∷ others) = is_right row.0 row.2 && are_right others

all_right : are_right rows ≡ true
unfolding rows
all_right = refl

-- what is found has the number, and is right
found_right : (xs : List Row) (special : ℕ) (row : Row) → are_right xs ≡ true → find (λ (other : Row). other.0 == special) xs ≡ Some row → (is_right row.0 row.2 ≡ true) × (row.0 ≡ special)
found_right [] special row right is = absurd cc
found_right (x ∷ xs) special row right is = elim (cases_Bool (x.0 == special)) [
  | inl e ↦
      let same : Some x ≡ Some row = rw e at is in
      let one : x ≡ row = cc in
      (rw (← one) (and_parts (is_right x.0 x.2) (are_right xs) right).0, rw (← one) (eqb-true x.0 special e))
  | inr e ↦ found_right xs special row (and_parts (is_right x.0 x.2) (are_right xs) right).1 (rw e at is)
]

pub by_hand : (special : ℕ) (row : Row) → row_of special ≡ Some row → row.2 ≡ ByHand → IsManual special
by_hand special row is hand =
    let given = found_right rows special row all_right is in
    let right : is_right row.0 ByHand ≡ true = rw hand at given.0 in
    rw (← given.1) right

pub by_hand_all : (special : ℕ) (row : Option Row) → row ≡ row_of special → IfSome row (λ (r : Row). r.2 ≡ ByHand → IsManual special)
by_hand_all special None is = tt
by_hand_all special (Some row) is = by_hand special row (sym is)
