-- What the code's casts, shifts and quotients give, as whole numbers.
use Rattle.std.proofs.Common.{false, lit<, ◌≡◌, ℕ, zero, suc, ◌+◌, ◌-◌, ◌*◌, ◌/◌, ◌%◌, ◌<◌, ◌≤◌, min, max, ℤ, pos, negsuc, ◌*ℤ◌, refl, sym, ap, ◌∙◌, arith}
use Rattle.std.specs.Prelude.{neg_ℤ, nat_le, FitsSigned, unsigned_abs, int_div}
use Rattle.std.specs.Int.Signed.{mag_shr}
use Rattle.std.proofs.Math.Nat.{mod-eq_of_lt}
use Rattle.std.proofs.lemmas.Int.{to_z-of_z, fits_signed_mul, fits_signed_from_abs, unsigned_abs-mul}
use Rattle.std.proofs.lemmas.Bool.Decides.{nat_tests}
use Rattle.std.specs.Int.{w32, w64, int_wrap, cast_signed, cast_unsigned}
use Rattle.std.specs.Int.Signed.{shr_z}
use Rattle.std.proofs.lemmas.Nat.{mod_low, div_below}
use Rattle.fixed_angle.specs.Fixed.{wrap32, units_of, mul, div, aprox}

low_of_negative : (a : ℕ) → a < 9223372036854775808 → (18446744073709551616 - suc a) % 4294967296 ≡ 4294967295 - a % 4294967296
low_of_negative a below =
    let split : 18446744073709551616 - suc a ≡ (4294967295 - a / 4294967296) * 4294967296 + (4294967295 - a % 4294967296) = omega arith in
    rw split (mod_low (4294967295 - a / 4294967296) 32 (4294967295 - a % 4294967296) (omega arith))

-- the low 32 bits of a number of 64, with their sign
pub low_word_is : (z : ℤ) → FitsSigned w64 z → cast_signed w32 (cast_unsigned w64 z % 4294967296) ≡ int_wrap w32 z
unfolding int_wrap
low_word_is (pos a) fits = refl
low_word_is (negsuc a) fits = ap (cast_signed w32) (low_of_negative a fits.sfits)

-- a shift by 16 rounds down
pub units_by_shift : (z : ℤ) → shr_z z 65536 ≡ units_of z
units_by_shift (pos a) = refl
units_by_shift (negsuc a) = refl

-- ---- a number of 32 bits as one of 64

pub wide : (z : ℤ) → FitsSigned w32 z → FitsSigned w64 z
wide z fits = let small = fits.sfits in record { sfits = omega arith }

abs_bound : (z : ℤ) → FitsSigned w32 z → unsigned_abs z ≤ 2147483648
abs_bound (pos a) fits = let small = fits.sfits in omega arith
abs_bound (negsuc a) fits = let small = fits.sfits in omega arith

-- `i64::from(a)`, read again
widened : (a x : ℤ) → FitsSigned w32 a → x ≡ cast_signed w32 (cast_unsigned w32 a) → cast_signed w64 (cast_unsigned w64 x) ≡ a
widened a x fits is = rw (is, to_z-of_z w32 a fits) (to_z-of_z w64 a (wide a fits))

-- ---- the product

pub product_fits : (a b : ℤ) → FitsSigned w32 a → FitsSigned w32 b → FitsSigned w64 (a *ℤ b)
product_fits a b fa fb = fits_signed_mul w64 a b 2147483648 2147483648 (abs_bound a fa) (abs_bound b fb) (lit< tt)

pub mul_code : (a b x y r : ℤ) → FitsSigned w32 a → FitsSigned w32 b → x ≡ cast_signed w32 (cast_unsigned w32 a) → y ≡ cast_signed w32 (cast_unsigned w32 b) → FitsSigned w32 r → r ≡ wrap32 (cast_signed w64 (cast_unsigned w64 (shr_z (cast_signed w64 (cast_unsigned w64 (cast_signed w64 (cast_unsigned w64 x) *ℤ cast_signed w64 (cast_unsigned w64 y)))) 65536))) → cast_signed w32 (cast_unsigned w32 r) ≡ mul a b
mul_code a b x y r fa fb xa yb fr given =
    let product = product_fits a b fa fb in
    let whole = product.sfits in
    let shifted : FitsSigned w64 (shr_z (a *ℤ b) 65536) = record { sfits = omega (arith, mag_shr (a *ℤ b) 65536) } in
    to_z-of_z w32 r fr ∙ (given ∙ rw (widened a x fa xa, widened b y fb yb, to_z-of_z w64 (a *ℤ b) product, to_z-of_z w64 (shr_z (a *ℤ b) 65536) shifted, units_by_shift (a *ℤ b)) refl)

-- ---- the quotient

abs_neg : (n : ℕ) → unsigned_abs (neg_ℤ (pos n)) ≡ n
abs_neg zero = refl
abs_neg (suc n) = refl

pub unsigned_abs-int_div : (x y : ℤ) → unsigned_abs (int_div x y) ≡ unsigned_abs x / unsigned_abs y
unsigned_abs-int_div (pos a) (pos b) = refl
unsigned_abs-int_div (pos a) (negsuc b) = abs_neg (a / suc b)
unsigned_abs-int_div (negsuc a) (pos b) = abs_neg (suc a / b)
unsigned_abs-int_div (negsuc a) (negsuc b) = refl

quotient_below : (n m : ℕ) → n / 16384 < m → n * 65536 / m < 1073741824
quotient_below n m near = div_below (n * 65536) m 1073741824 (omega arith) (omega arith)

quotient_fits : (a b : ℤ) → unsigned_abs a / 16384 < unsigned_abs b → FitsSigned w32 (int_div (a *ℤ pos 65536) b)
quotient_fits a b near =
    let small : unsigned_abs (int_div (a *ℤ pos 65536) b) < 1073741824 = rw (unsigned_abs-int_div (a *ℤ pos 65536) b, unsigned_abs-mul a (pos 65536)) (quotient_below (unsigned_abs a) (unsigned_abs b) near) in
    fits_signed_from_abs w32 (int_div (a *ℤ pos 65536) b) (omega arith)

shifted_fits : (a : ℤ) → FitsSigned w32 a → FitsSigned w64 (a *ℤ pos 65536)
shifted_fits a fits = fits_signed_mul w64 a (pos 65536) 2147483648 65536 (abs_bound a fits) (omega arith) (lit< tt)

-- where the quotient fits, `div` is the quotient
pub div_near : (a b : ℤ) → unsigned_abs a / 16384 < unsigned_abs b → div a b ≡ int_div (a *ℤ pos 65536) b
div_near a b near =
    let far : nat_le (unsigned_abs b) (unsigned_abs a / 16384) ≡ false = grind (arith, nat_tests) in
    rw far refl

-- the code's quotient, where a and b are numbers of 32 bits and the quotient fits
module _ (a b x y : ℤ) (n m : ℕ)
    (fa : FitsSigned w32 a) (fb : FitsSigned w32 b)
    (xa : x ≡ cast_signed w32 (cast_unsigned w32 a)) (yb : y ≡ cast_signed w32 (cast_unsigned w32 b))
    (na : n ≡ unsigned_abs (cast_signed w32 (cast_unsigned w32 a))) (mb : m ≡ unsigned_abs (cast_signed w32 (cast_unsigned w32 b)))
    (near : n / 16384 < m) where
  is_near : unsigned_abs a / 16384 < unsigned_abs b
  is_near =
      let ea : n ≡ unsigned_abs a = na ∙ ap unsigned_abs (to_z-of_z w32 a fa) in
      let eb : m ≡ unsigned_abs b = mb ∙ ap unsigned_abs (to_z-of_z w32 b fb) in
      rw (← ea, ← eb) near

  quotient_is : cast_signed w64 (cast_unsigned w64 (int_div (cast_signed w64 (cast_unsigned w64 (cast_signed w64 (cast_unsigned w64 x) *ℤ pos 65536))) (cast_signed w64 (cast_unsigned w64 y)))) ≡ int_div (a *ℤ pos 65536) b
  quotient_is = rw (widened a x fa xa, widened b y fb yb, to_z-of_z w64 (a *ℤ pos 65536) (shifted_fits a fa)) (to_z-of_z w64 (int_div (a *ℤ pos 65536) b) (wide (int_div (a *ℤ pos 65536) b) (quotient_fits a b is_near)))

  pub div_fits : FitsSigned w32 (cast_signed w64 (cast_unsigned w64 (int_div (cast_signed w64 (cast_unsigned w64 (cast_signed w64 (cast_unsigned w64 x) *ℤ pos 65536))) (cast_signed w64 (cast_unsigned w64 y)))))
  div_fits = rw quotient_is (quotient_fits a b is_near)

  pub div_code : cast_signed w32 (cast_unsigned w32 (cast_signed w64 (cast_unsigned w64 (int_div (cast_signed w64 (cast_unsigned w64 (cast_signed w64 (cast_unsigned w64 x) *ℤ pos 65536))) (cast_signed w64 (cast_unsigned w64 y)))))) ≡ div a b
  div_code = rw quotient_is (to_z-of_z w32 (int_div (a *ℤ pos 65536) b) (quotient_fits a b is_near) ∙ sym (div_near a b is_near))

-- ---- the length of a way

wrapped : (n : ℕ) → n < 4294967296 → cast_signed w32 n ≡ wrap32 (pos n)
unfolding int_wrap
wrapped n below = ap (cast_signed w32) (sym (mod-eq_of_lt below))

pub aprox_code : (dx dy r : ℤ) (x y lesser greater : ℕ) → x ≡ unsigned_abs dx → y ≡ unsigned_abs dy → x ≤ 2147483648 → y ≤ 2147483648 → lesser ≡ min x y → greater ≡ max x y → r ≡ cast_signed w32 (greater + (lesser - lesser / 2)) → r ≡ aprox dx dy
aprox_code dx dy r x y lesser greater ex ey bx by el eg er =
    let same : greater + (lesser - lesser / 2) ≡ x + y - min x y / 2 = rw (el, eg) (omega arith) in
    er ∙ (ap (cast_signed w32) same ∙ (wrapped (x + y - min x y / 2) (omega arith) ∙ rw (ex, ey) refl))
