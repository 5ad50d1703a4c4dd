-- The cases of the angle of a way.
use Rattle.std.proofs.Common.{◌≡◌, ◌≢◌, ℕ, ◌%◌, ◌<◌, ◌≤◌, Bool, true, false, ◌&&◌, ℤ, pos, refl, ap, ◌∙◌, inl, inr, arith}
use Rattle.std.specs.Prelude.{unsigned_abs, nat_lt, FitsSigned}
use Rattle.std.specs.Int.{w32, is_negative, cast_signed, cast_unsigned}
use Rattle.std.specs.Ordering.{int_eq}
use Rattle.std.proofs.lemmas.Int.{to_z-of_z}
use Rattle.std.proofs.lemmas.Bool.{cases_Bool}
use Rattle.std.proofs.lemmas.Bool.Decides.{Decides-int_eq, nat_tests}
use Rattle.fixed_angle.specs.Fixed.{slope}
use Rattle.fixed_angle.specs.Tables.{Tables, arc_of}
use Rattle.fixed_angle.specs.Angle.{turn, flat_angle, steep_angle, angle}

not_zero : (x : ℤ) → 0 < unsigned_abs x → int_eq x (pos 0) ≡ false
not_zero x long =
    elim (cases_Bool (int_eq x (pos 0))) [
      | inl hit ↦ let none : x ≡ pos 0 = (Decides-int_eq x (pos 0)).0 hit in let short : unsigned_abs x ≡ 0 = ap unsigned_abs none in absurd (omega arith)
      | inr miss ↦ miss
    ]

and_false : (a : Bool) → (a && false) ≡ false
and_false true = refl
and_false false = refl

angle_flat : (tables : Tables) (x y : ℤ) → unsigned_abs y < unsigned_abs x → flat_angle (is_negative x) (is_negative y) (arc_of tables (slope (unsigned_abs y) (unsigned_abs x))) % turn ≡ angle tables x y
angle_flat tables x y flatter =
    let there : int_eq x (pos 0) ≡ false = not_zero x (omega arith) in
    let test : nat_lt (unsigned_abs y) (unsigned_abs x) ≡ true = grind (arith, nat_tests) in
    rw (there, test) refl

angle_steep : (tables : Tables) (x y : ℤ) → unsigned_abs x ≤ unsigned_abs y → 0 < unsigned_abs y → steep_angle (is_negative x) (is_negative y) (arc_of tables (slope (unsigned_abs x) (unsigned_abs y))) % turn ≡ angle tables x y
angle_steep tables x y steeper long =
    let there : int_eq y (pos 0) ≡ false = not_zero y long in
    let test : nat_lt (unsigned_abs y) (unsigned_abs x) ≡ false = grind (arith, nat_tests) in
    rw (there, and_false (int_eq x (pos 0)), test) refl

-- ---- the same of what the code has: lengths, a place in the table, an arc and an angle

module _ (tables : Tables) (x y : ℤ) (east north : ℕ)
    (fx : FitsSigned w32 x) (fy : FitsSigned w32 y)
    (ex : east ≡ unsigned_abs (cast_signed w32 (cast_unsigned w32 x))) (ny : north ≡ unsigned_abs (cast_signed w32 (cast_unsigned w32 y))) where
  east_is : east ≡ unsigned_abs x
  east_is = ex ∙ ap unsigned_abs (to_z-of_z w32 x fx)

  north_is : north ≡ unsigned_abs y
  north_is = ny ∙ ap unsigned_abs (to_z-of_z w32 y fy)

  pub flat_way : (place arc r : ℕ) → north < east → place ≡ slope north east → arc ≡ arc_of tables place → r ≡ flat_angle (is_negative (cast_signed w32 (cast_unsigned w32 x))) (is_negative (cast_signed w32 (cast_unsigned w32 y))) arc % turn → r ≡ angle tables x y
  flat_way place arc r lt at is given =
      let less : unsigned_abs y < unsigned_abs x = rw (← north_is, ← east_is) lt in
      given ∙ (rw (to_z-of_z w32 x fx, to_z-of_z w32 y fy, is, at, north_is, east_is) refl ∙ angle_flat tables x y less)

  pub steep_way : (place arc r : ℕ) → east ≤ north → north ≢ 0 → place ≡ slope east north → arc ≡ arc_of tables place → r ≡ steep_angle (is_negative (cast_signed w32 (cast_unsigned w32 x))) (is_negative (cast_signed w32 (cast_unsigned w32 y))) arc % turn → r ≡ angle tables x y
  steep_way place arc r le some at is given =
      let less : unsigned_abs x ≤ unsigned_abs y = rw (← north_is, ← east_is) le in
      let long : 0 < unsigned_abs y = rw (← north_is) (omega arith) in
      given ∙ (rw (to_z-of_z w32 x fx, to_z-of_z w32 y fy, is, at, north_is, east_is) refl ∙ angle_steep tables x y less long)
