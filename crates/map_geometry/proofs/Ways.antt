-- Sides, of what the code has.
use Rattle.std.proofs.Common.{◌≡◌, ℕ, ◌<◌, ℤ, pos, negsuc, Bool, true, false, refl, ap, ◌∙◌, inl, inr, arith}
use Rattle.std.specs.Int.{w32, is_negative, cast_signed, cast_unsigned}
use Rattle.std.specs.Int.Signed.{mag}
use Rattle.std.specs.Ordering.{int_eq}
use Rattle.std.proofs.lemmas.Int.{to_z-of_z}
use Rattle.std.proofs.lemmas.Bool.{cases_Bool}
use Rattle.std.proofs.lemmas.Bool.Decides.{Decides-int_eq}
use Rattle.map_geometry.specs.Sides.{back_if, differ, side_by, slanting_side}

-- where the signs tell
pub slanting_by_signs : (dx dy px py left right : ℤ) (crossed other : Bool) (r : ℕ) → crossed ≡ differ (is_negative dy) (is_negative px) → other ≡ differ (is_negative dx) (is_negative py) → differ crossed other ≡ true → r ≡ back_if crossed → r ≡ slanting_side dx dy px py left right
slanting_by_signs dx dy px py left right crossed other r crossed_is other_is odd given = given ∙ rw (← crossed_is, ← other_is, odd) refl

-- where the products tell
pub slanting_by_products : (dx dy px py left right : ℤ) (crossed other : Bool) (r : ℕ) → crossed ≡ differ (is_negative dy) (is_negative px) → other ≡ differ (is_negative dx) (is_negative py) → differ crossed other ≡ false → r ≡ side_by left right → r ≡ slanting_side dx dy px py left right
slanting_by_products dx dy px py left right crossed other r crossed_is other_is even given = given ∙ rw (← crossed_is, ← other_is, even) refl

-- ---- casts and tests of a number of 32 bits

pub read_back : (z : ℤ) → mag z < 2147483648 → cast_signed w32 (cast_unsigned w32 z) ≡ z
read_back z small = to_z-of_z w32 z (record { sfits = small })

zero_of : (z : ℤ) → mag z < 2147483648 → cast_unsigned w32 z ≡ 0 → z ≡ pos 0
zero_of (pos n) small none = ap pos none
zero_of (negsuc n) small none = absurd (omega arith)

-- the code's test for 0
pub is_zero : (z : ℤ) → mag z < 2147483648 → cast_unsigned w32 z ≡ 0 → int_eq z (pos 0) ≡ true
is_zero z small none = (Decides-int_eq z (pos 0)).1 (zero_of z small none)

pub not_zero : (z : ℤ) → (cast_unsigned w32 z ≡ 0 → ⊥) → int_eq z (pos 0) ≡ false
not_zero z some =
    elim (cases_Bool (int_eq z (pos 0))) [
      | inl hit ↦ absurd (some (ap (cast_unsigned w32) ((Decides-int_eq z (pos 0)).0 hit)))
      | inr miss ↦ miss
    ]

pub ruleset casts = (read_back, to_z-of_z, is_zero, not_zero)
