-- A tic and its bytes determine each other.
use Rattle.std.proofs.Common.{ℕ, ◌+◌, ◌*◌, ◌/◌, ◌%◌, ◌<◌, ◌≤◌, ◌≡◌, ◌≢◌, ◌++◌, Bool, true, false, List, [], ◌∷◌, length, take, slice_index, arith, subst, ap, sym, refl, ◌∙◌, FitsSigned, ℤ, pos, negsuc, ◌≤ℤ◌}
use Rattle.std.specs.Int.{cast_unsigned, cast_signed, int_max, w8}
use Rattle.std.proofs.lemmas.Int.{ints, clamps, to_z-of_z, of_z-to_z}
use Rattle.std.proofs.Props.{props}
use mir.Facts.{sfits_to_z}
use Rattle.lmp_codec.specs.Tics.{tic_of}
use Rattle.lmp_codec.specs.Demo.{tic_len, tic_bytes, end_byte, FitsBytes}
use Rattle.lmp_codec.specs.declared.input.Tic.{Tic}

-- the numbers of a text are bytes
abbrev pub AreBytes : List ℕ → Type 0
AreBytes text = (k : ℕ) → slice_index text k < 256

-- the tic of these numbers
abbrev make : (forward side : ℤ) (turn buttons : ℕ) → negsuc 126 ≤ℤ forward → Tic
make f s t b above = record { forward = f; side = s; turn = t; buttons = b; above_end_byte = above }

pub above_end : (f : ℕ) → f ≢ 128 → f < 256 → negsuc 126 ≤ℤ cast_signed w8 f
above_end f ne h = grind (arith, ints)

-- ---- bytes of which the first isn't the end byte are those of a tic

pub long_spelled : (f s l h b : ℕ) → f ≢ 128 → f < 256 → s < 256 → l < 256 → h < 256 → b < 256 → (tic : Tic) × (tic_bytes true tic ≡ f ∷ s ∷ l ∷ h ∷ b ∷ []) × FitsBytes true tic
long_spelled f s l h b ne hf hs hl hh hb =
    let ef : cast_unsigned w8 (cast_signed w8 f) ≡ f = of_z-to_z w8 f hf in
    let es : cast_unsigned w8 (cast_signed w8 s) ≡ s = of_z-to_z w8 s hs in
    let el : (l + 256 * h) % 256 ≡ l = omega arith in
    let eh : (l + 256 * h) / 256 ≡ h = omega arith in (
      make (cast_signed w8 f) (cast_signed w8 s) (l + 256 * h) b (above_end f ne hf),
      cc,
      record {
        forward = sfits_to_z (record { fits = hf });
        side = sfits_to_z (record { fits = hs });
        turn = omega arith;
        held = λ e. cc;
        buttons = hb;
      },
    )

pub short_spelled : (f s h b : ℕ) → f ≢ 128 → f < 256 → s < 256 → h < 256 → b < 256 → (tic : Tic) × (tic_bytes false tic ≡ f ∷ s ∷ h ∷ b ∷ []) × FitsBytes false tic
short_spelled f s h b ne hf hs hh hb =
    let ef : cast_unsigned w8 (cast_signed w8 f) ≡ f = of_z-to_z w8 f hf in
    let es : cast_unsigned w8 (cast_signed w8 s) ≡ s = of_z-to_z w8 s hs in
    let eh : 256 * h / 256 ≡ h = omega arith in (
      make (cast_signed w8 f) (cast_signed w8 s) (256 * h) b (above_end f ne hf),
      cc,
      record {
        forward = sfits_to_z (record { fits = hf });
        side = sfits_to_z (record { fits = hs });
        turn = omega arith;
        held = λ e. omega arith;
        buttons = hb;
      },
    )

-- a text that begins with enough bytes begins with a tic
pub tic_first : (long : Bool) (text : List ℕ) → AreBytes text → tic_len long ≤ length text → slice_index text 0 ≢ end_byte → (tic : Tic) × (tic_bytes long tic ≡ take (tic_len long) text) × FitsBytes long tic
tic_first true (f ∷ s ∷ l ∷ h ∷ b ∷ text) bytes whole ne = long_spelled f s l h b ne (bytes 0) (bytes 1) (bytes 2) (bytes 3) (bytes 4)
tic_first true (f ∷ s ∷ l ∷ h ∷ []) bytes whole ne = absurd (omega arith)
tic_first true (f ∷ s ∷ l ∷ []) bytes whole ne = absurd (omega arith)
tic_first true (f ∷ s ∷ []) bytes whole ne = absurd (omega arith)
tic_first true (f ∷ []) bytes whole ne = absurd (omega arith)
tic_first true [] bytes whole ne = absurd (omega arith)
tic_first false (f ∷ s ∷ h ∷ b ∷ text) bytes whole ne = short_spelled f s h b ne (bytes 0) (bytes 1) (bytes 2) (bytes 3)
tic_first false (f ∷ s ∷ h ∷ []) bytes whole ne = absurd (omega arith)
tic_first false (f ∷ s ∷ []) bytes whole ne = absurd (omega arith)
tic_first false (f ∷ []) bytes whole ne = absurd (omega arith)
tic_first false [] bytes whole ne = absurd (omega arith)

-- one byte or some that aren't enough for a tic, and of which the first isn't the end byte, begin a tic
pub tic_begun : (long : Bool) (f : ℕ) (rest : List ℕ) → f ≢ end_byte → AreBytes (f ∷ rest) → length rest + 1 < tic_len long → (tic : Tic) × (more : List ℕ) × (tic_bytes long tic ≡ (f ∷ rest) ++ more) × FitsBytes long tic
tic_begun true f [] ne bytes short = let found = long_spelled f 0 0 0 0 ne (bytes 0) (omega arith) (omega arith) (omega arith) (omega arith) in (found.0, 0 ∷ 0 ∷ 0 ∷ 0 ∷ [], found.1, found.2)
tic_begun true f (s ∷ []) ne bytes short = let found = long_spelled f s 0 0 0 ne (bytes 0) (bytes 1) (omega arith) (omega arith) (omega arith) in (found.0, 0 ∷ 0 ∷ 0 ∷ [], found.1, found.2)
tic_begun true f (s ∷ l ∷ []) ne bytes short = let found = long_spelled f s l 0 0 ne (bytes 0) (bytes 1) (bytes 2) (omega arith) (omega arith) in (found.0, 0 ∷ 0 ∷ [], found.1, found.2)
tic_begun true f (s ∷ l ∷ h ∷ []) ne bytes short = let found = long_spelled f s l h 0 ne (bytes 0) (bytes 1) (bytes 2) (bytes 3) (omega arith) in (found.0, 0 ∷ [], found.1, found.2)
tic_begun true f (s ∷ l ∷ h ∷ b ∷ rest) ne bytes short = absurd (omega arith)
tic_begun false f [] ne bytes short = let found = short_spelled f 0 0 0 ne (bytes 0) (omega arith) (omega arith) (omega arith) in (found.0, 0 ∷ 0 ∷ 0 ∷ [], found.1, found.2)
tic_begun false f (s ∷ []) ne bytes short = let found = short_spelled f s 0 0 ne (bytes 0) (bytes 1) (omega arith) (omega arith) in (found.0, 0 ∷ 0 ∷ [], found.1, found.2)
tic_begun false f (s ∷ h ∷ []) ne bytes short = let found = short_spelled f s h 0 ne (bytes 0) (bytes 1) (bytes 2) (omega arith) in (found.0, 0 ∷ [], found.1, found.2)
tic_begun false f (s ∷ h ∷ b ∷ rest) ne bytes short = absurd (omega arith)

-- the first bytes of a text, by their places
pub take_five : (text : List ℕ) → 5 ≤ length text → take 5 text ≡ slice_index text 0 ∷ slice_index text 1 ∷ slice_index text 2 ∷ slice_index text 3 ∷ slice_index text 4 ∷ []
take_five (a ∷ b ∷ c ∷ d ∷ e ∷ text) whole = refl
take_five (a ∷ b ∷ c ∷ d ∷ []) whole = absurd (omega arith)
take_five (a ∷ b ∷ c ∷ []) whole = absurd (omega arith)
take_five (a ∷ b ∷ []) whole = absurd (omega arith)
take_five (a ∷ []) whole = absurd (omega arith)
take_five [] whole = absurd (omega arith)

pub take_four : (text : List ℕ) → 4 ≤ length text → take 4 text ≡ slice_index text 0 ∷ slice_index text 1 ∷ slice_index text 2 ∷ slice_index text 3 ∷ []
take_four (a ∷ b ∷ c ∷ d ∷ text) whole = refl
take_four (a ∷ b ∷ c ∷ []) whole = absurd (omega arith)
take_four (a ∷ b ∷ []) whole = absurd (omega arith)
take_four (a ∷ []) whole = absurd (omega arith)
take_four [] whole = absurd (omega arith)

-- ---- no two tics have the same bytes

-- no tic begins with the end byte
pub never_end : (z : ℤ) → negsuc 126 ≤ℤ z → FitsSigned w8 z → cast_unsigned w8 z ≢ 128
never_end (pos n) above fits e = omega arith
never_end (negsuc n) above fits e = omega (arith, ints)

-- the bytes of a tic behind its first
abbrev behind : Bool → Tic → List ℕ
behind true tic = cast_unsigned w8 tic.side ∷ tic.turn % 256 ∷ tic.turn / 256 ∷ tic.buttons ∷ []
behind false tic = cast_unsigned w8 tic.side ∷ tic.turn / 256 ∷ tic.buttons ∷ []

begins : (long : Bool) (tic : Tic) → tic_bytes long tic ≡ cast_unsigned w8 tic.forward ∷ behind long tic
begins true tic = refl
begins false tic = refl

pub heads : (a b : ℕ) (x y : List ℕ) → a ∷ x ≡ b ∷ y → a ≡ b
heads a b x y e = cc

-- and so what begins with a tic begins with something else than the end byte
pub begins_apart : (long : Bool) (tic : Tic) (x y : List ℕ) → FitsBytes long tic → tic_bytes long tic ++ x ≡ end_byte ∷ y → ⊥
begins_apart long tic x y fits e =
    never_end tic.forward tic.above_end_byte fits.forward
    (heads (cast_unsigned w8 tic.forward) end_byte (behind long tic ++ x) y (ap (λ (bytes : List ℕ). bytes ++ x) (sym (begins long tic)) ∙ e))

-- a signed number is determined by its byte
same_signed : (y z : ℤ) → FitsSigned w8 y → FitsSigned w8 z → cast_unsigned w8 y ≡ cast_unsigned w8 z → y ≡ z
same_signed y z fy fz e = sym (to_z-of_z w8 y fy) ∙ ap (cast_signed w8) e ∙ to_z-of_z w8 z fz

above_prop : (z : ℤ) → IsProp (negsuc 126 ≤ℤ z)
above_prop z = hlevel props

same_forward : (f g s : ℤ) (t b : ℕ) (h : negsuc 126 ≤ℤ f) (k : negsuc 126 ≤ℤ g) → f ≡ g → make f s t b h ≡ make g s t b k
same_forward f g s t b h k e =
    let Same : ℤ → Type 0 = λ z. (k : negsuc 126 ≤ℤ z) → make f s t b h ≡ make z s t b k in
    subst Same e (λ k. ap (λ (x : negsuc 126 ≤ℤ f). make f s t b x) (above_prop f h k)) k

-- a tic is determined by its numbers
same_numbers : (f g s r : ℤ) (t u b d : ℕ) (h : negsuc 126 ≤ℤ f) (k : negsuc 126 ≤ℤ g) → f ≡ g → s ≡ r → t ≡ u → b ≡ d → make f s t b h ≡ make g r u d k
same_numbers f g s r t u b d h k ef es et eb =
    same_forward f g s t b h k ef
    ∙ ap (λ (x : ℤ). make g x t b k) es
    ∙ ap (λ (x : ℕ). make g r x b k) et
    ∙ ap (λ (x : ℕ). make g r u x k) eb

same_tic : {long : Bool} (a b : Tic) → FitsBytes long a → FitsBytes long b → cast_unsigned w8 a.forward ≡ cast_unsigned w8 b.forward → cast_unsigned w8 a.side ≡ cast_unsigned w8 b.side → a.turn ≡ b.turn → a.buttons ≡ b.buttons → a ≡ b
same_tic a b fa fb ef es et eb =
    same_numbers _ _ _ _ _ _ _ _ a.above_end_byte b.above_end_byte (same_signed a.forward b.forward fa.forward fb.forward ef) (same_signed a.side b.side fa.side fb.side es) et eb

five : (a b c d e i j k l m : ℕ) (x y : List ℕ) → a ∷ b ∷ c ∷ d ∷ e ∷ x ≡ i ∷ j ∷ k ∷ l ∷ m ∷ y → (a ≡ i) × (b ≡ j) × (c ≡ k) × (d ≡ l) × (e ≡ m) × (x ≡ y)
five a b c d e i j k l m x y same = (cc, cc, cc, cc, cc, cc)

four : (a b c d i j k l : ℕ) (x y : List ℕ) → a ∷ b ∷ c ∷ d ∷ x ≡ i ∷ j ∷ k ∷ l ∷ y → (a ≡ i) × (b ≡ j) × (c ≡ k) × (d ≡ l) × (x ≡ y)
four a b c d i j k l x y same = (cc, cc, cc, cc, cc)

-- what begins with the bytes of two tics begins with those of one, and then goes on alike
pub same_bytes : (long : Bool) (a b : Tic) (x y : List ℕ) → FitsBytes long a → FitsBytes long b → tic_bytes long a ++ x ≡ tic_bytes long b ++ y → (a ≡ b) × (x ≡ y)
same_bytes true a b x y fa fb e =
    let parts = five _ _ _ _ _ _ _ _ _ _ _ _ e in
    let turn : a.turn ≡ b.turn = omega (arith, parts.2, parts.3) in
    (same_tic a b fa fb parts.0 parts.1 turn parts.4, parts.5)
same_bytes false a b x y fa fb e =
    let parts = four _ _ _ _ _ _ _ _ _ _ e in
    let turn : a.turn ≡ b.turn = omega (arith, parts.2, fa.held refl, fb.held refl) in
    (same_tic a b fa fb parts.0 parts.1 turn parts.3, parts.4)

-- ---- the tic that is made of numbers has these numbers

pub forward_kept : (f : ℤ) → negsuc 126 ≤ℤ f → int_max (negsuc 126) f ≡ f
forward_kept f above = omega (arith, ints, clamps)

pub made_of : (f s : ℤ) (t b : ℕ) (h : negsuc 126 ≤ℤ f) → make f s t b h ≡ tic_of f s t b
made_of f s t b h = same_forward f (int_max (negsuc 126) f) s t b h (tic_of f s t b).above_end_byte (sym (forward_kept f h))
