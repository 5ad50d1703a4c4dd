-- Two tics with the same numbers are one, and how many leading tics two sequences share.
use Rattle.std.proofs.Common.{◌≡◌, ◌≢◌, ℕ, zero, suc, ◌+◌, Bool, true, false, if◌then◌else◌, List, [], ◌∷◌, take, Some, inl, inr, ap, refl, sym, subst, ◌∙◌, arith, FitsSigned, w8, w32, to_z, of_z}
use Rattle.std.proofs.lemmas.Bool.{cases_Bool, eqb-true, eq-eqb}
use Rattle.std.proofs.lemmas.Bool.Decides.{Decides-int_eq}
use Rattle.std.proofs.lemmas.Int.{ints, to_z-of_z}
use Rattle.std.specs.Prelude.{ℤ, pos, negsuc, ◌≤ℤ◌, ◌&&◌, nat_eq}
use Rattle.std.specs.Ordering.{int_eq}
use Rattle.lmp_codec.specs.Turns.{turn_of}
use Rattle.lmp_codec.specs.Tics.{tic_of}
use Rattle.brute_ranges.specs.Tics.{tic_with, buttons_of, IsBetween}
use Rattle.brute_ranges.specs.Space.{is_same, shared_front, SharesExactly}
use Rattle.std.proofs.Props.{props}
use Rattle.lmp_codec.specs.declared.input.Tic.{Tic}

at_most_prop : (a b : ℤ) → IsProp (a ≤ℤ b)
at_most_prop a b = hlevel props

made : (forward side : ℤ) (turn buttons : ℕ) → negsuc 126 ≤ℤ forward → Tic
made forward side turn buttons h = record { forward = forward; side = side; turn = turn; buttons = buttons; above_end_byte = h }

same_forward : (f g s : ℤ) (t u : ℕ) (h : negsuc 126 ≤ℤ f) → f ≡ g → (k : negsuc 126 ≤ℤ g) → made f s t u h ≡ made g s t u k
unfolding made
same_forward f g s t u h e = subst (λ (n : ℤ). (k : negsuc 126 ≤ℤ n) → made f s t u h ≡ made n s t u k) e (λ k. ap (made f s t u) (at_most_prop (negsuc 126) f h k))

pub tic_same : (a b : Tic) → a.forward ≡ b.forward → a.side ≡ b.side → a.turn ≡ b.turn → a.buttons ≡ b.buttons → a ≡ b
unfolding made
tic_same a b f s t u =
    ap (λ n. made a.forward n a.turn a.buttons a.above_end_byte) s
    ∙ ap (λ n. made a.forward b.side n a.buttons a.above_end_byte) t
    ∙ ap (λ n. made a.forward b.side b.turn n a.above_end_byte) u
    ∙ same_forward a.forward b.forward b.side b.turn b.buttons a.above_end_byte f b.above_end_byte

-- what a cast to a byte and back leaves
fits_byte : (n : ℤ) → negsuc 127 ≤ℤ n → n ≤ℤ pos 127 → FitsSigned w8 n
fits_byte (pos n) low high = record { sfits = omega (arith, ints) }
fits_byte (negsuc n) low high = record { sfits = omega (arith, ints) }

pub byte_back : (n : ℤ) → FitsSigned w32 n → negsuc 127 ≤ℤ n → n ≤ℤ pos 127 → to_z w8 (of_z w8 (to_z w32 (of_z w32 n))) ≡ n
byte_back n fits low high = ap (λ m. to_z w8 (of_z w8 m)) (to_z-of_z w32 n fits) ∙ to_z-of_z w8 n (fits_byte n low high)

-- the tic that the code makes of its numbers
pub made_is : (long : Bool) (f s t u : ℤ) (turn buttons : ℕ)
    → FitsSigned w32 f → FitsSigned w32 s → FitsSigned w32 t → FitsSigned w32 u
    → IsBetween (negsuc 126) (pos 127) f → IsBetween (negsuc 127) (pos 127) s
    → turn ≡ turn_of long (to_z w32 (of_z w32 t)) → buttons ≡ buttons_of (to_z w32 (of_z w32 u))
    → tic_of (to_z w8 (of_z w8 (to_z w32 (of_z w32 f)))) (to_z w8 (of_z w8 (to_z w32 (of_z w32 s)))) turn buttons ≡ tic_with long f s t u
made_is long f s t u turn buttons ff fs ft fu f_in s_in turn_is buttons_is =
    ap (λ (x : ℤ). tic_of x (to_z w8 (of_z w8 (to_z w32 (of_z w32 s)))) turn buttons) (byte_back f ff (omega (arith, ints, f_in.0)) f_in.1)
    ∙ ap (λ (x : ℤ). tic_of f x turn buttons) (byte_back s fs s_in.0 s_in.1)
    ∙ ap (λ (x : ℕ). tic_of f s x buttons) (turn_is ∙ ap (turn_of long) (to_z-of_z w32 t ft))
    ∙ ap (λ (x : ℕ). tic_of f s (turn_of long t) x) (buttons_is ∙ ap buttons_of (to_z-of_z w32 u fu))

both_true : (x y : Bool) → (x && y) ≡ true → (x ≡ true) × (y ≡ true)
both_true true true e = (refl, refl)
both_true true false e = absurd cc
both_true false y e = absurd cc

all_true : (x y z w : Bool) → x ≡ true → y ≡ true → z ≡ true → w ≡ true → (x && (y && (z && w))) ≡ true
all_true x y z w ex ey ez ew = rw (ex, ey, ez, ew) refl

same_int : (x y : ℤ) → int_eq x y ≡ true → x ≡ y
same_int x y e = (Decides-int_eq x y).0 e

int_itself : (x : ℤ) → int_eq x x ≡ true
int_itself x = (Decides-int_eq x x).1 refl

to_itself : (a : Tic) → is_same a a ≡ true
to_itself a = all_true (int_eq a.forward a.forward) (int_eq a.side a.side) (nat_eq a.turn a.turn) (nat_eq a.buttons a.buttons) (int_itself a.forward) (int_itself a.side) (eq-eqb a.turn a.turn refl) (eq-eqb a.buttons a.buttons refl)

-- the test of two tics tells whether they are the same
pub same_by_test : (a b : Tic) → is_same a b ≡ true → a ≡ b
same_by_test a b same =
    let first = both_true (int_eq a.forward b.forward) (int_eq a.side b.side && (nat_eq a.turn b.turn && nat_eq a.buttons b.buttons)) same in
    let second = both_true (int_eq a.side b.side) (nat_eq a.turn b.turn && nat_eq a.buttons b.buttons) first.1 in
    let third = both_true (nat_eq a.turn b.turn) (nat_eq a.buttons b.buttons) second.1 in
    tic_same a b (same_int a.forward b.forward first.0) (same_int a.side b.side second.0) (eqb-true a.turn b.turn third.0) (eqb-true a.buttons b.buttons third.1)

pub apart_by_test : (a b : Tic) → a ≢ b → is_same a b ≡ false
apart_by_test a b apart = elim (cases_Bool (is_same a b)) [ inl same ↦ absurd (apart (same_by_test a b same)) | inr differ ↦ differ ]

pub same_to_itself : (a b : Tic) → a ≡ b → is_same a b ≡ true
same_to_itself a b e = ap (is_same a) (sym e) ∙ to_itself a

two : (x y : Tic) (a b : List Tic) → x ∷ a ≡ y ∷ b → (x ≡ y) × (a ≡ b)
two x y a b e = (cc, cc)

-- what is shared exactly is what is shared, as a number
pub shared_is : (a b : List Tic) (n : ℕ) → SharesExactly n a b → n ≡ shared_front a b
shared_is [] b n shares = omega (arith, shares.within)
shared_is (x ∷ a) [] zero shares = refl
shared_is (x ∷ a) [] (suc n) shares = absurd (let same = shares.same in cc)
shared_is (x ∷ a) (y ∷ b) zero shares =
    let apart : x ≢ y = λ e. shares.differ (omega arith) (ap Some e) in
    let test = apart_by_test x y apart in
    ap (λ (t : Bool). if t then 1 + shared_front a b else 0) (sym test)
shared_is (x ∷ a) (y ∷ b) (suc n) shares =
    let parts = two x y (take n a) (take n b) shares.same in
    let test = same_to_itself x y parts.0 in
    let rest = shared_is a b n (record { within = omega (arith, shares.within); same = parts.1; differ = λ below. shares.differ (omega arith) }) in
    let more : suc n ≡ 1 + shared_front a b = omega (arith, rest) in
    more ∙ ap (λ (t : Bool). if t then 1 + shared_front a b else 0) (sym test)
