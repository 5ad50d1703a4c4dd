-- The tics of a product, by their place.
use Rattle.std.proofs.Common.{Bool, IsTrue, ◌↔◌, true, false, zero, suc, ◌≡◌, ℕ, ◌+◌, ◌-◌, ◌*◌, ◌/◌, ◌%◌, ◌^◌, ◌<◌, ◌≤◌, Some, List, [], ◌∷◌, length, get_or, take, map, refl, sym, ◌∙◌, ap, subst, arith, length-append}
use Rattle.std.specs.Prelude.{ℤ, pos, negsuc, ◌+ℤ◌, ◌-ℤ◌, ◌≤ℤ◌}
use Rattle.std.specs.List.{flat_map, slice_get}
use mir.Syntax.{w32}
use mir.Val.{to_z, of_z}
use lib.Signed.{mag}
use Rattle.std.proofs.lemmas.Int.{ints, clamps, to_z-of_z}
use Rattle.std.specs.Int.{int_max}
use native.Mathlib.Nat.{mod-lt}
use Rattle.std.proofs.lemmas.Option.{slice_get-get_or}
use Rattle.std.proofs.lemmas.List.{length-take-le, length-map, get_or-map}
use Rattle.std.proofs.lemmas.Nat.{mul-add-lt, mul-lt, mul-le, div-add-mod', div_below}
use Rattle.std.proofs.lemmas.List.Concat.{get_or-flat_map}
use Rattle.lmp_codec.specs.declared.input.Tic.{Tic}
use Rattle.brute_ranges.specs.declared.ranges.Range.{Range}
use Rattle.brute_ranges.specs.declared.ranges.TicRanges.{TicRanges}
use Rattle.lmp_codec.specs.Turns.{modulo, turn_count, least_turn, greatest_turn, turn_of}
use Rattle.brute_ranges.specs.Tics.{natural, width, rising, values, buttons_of, tic_with, tics_of, tic_count, IsBetween, IsWithin, IsSound}

-- rows of one length, one after another
pub rows_length : {A B : Type 0} (f : A → List B) (m : ℕ) (xs : List A) → ((x : A) → length (f x) ≡ m) → length (flat_map f xs) ≡ length xs * m
rows_length f m [] same = omega arith
rows_length f m (x ∷ xs) same = omega (arith, length-append (f x) (flat_map f xs), same x, rows_length f m xs same)

pub rows_at : {A B : Type 0} (f : A → List B) (m : ℕ) (xs : List A) → ((x : A) → length (f x) ≡ m) → (i j : ℕ) (e : A) (d : B) → i < length xs → j < m
    → get_or (flat_map f xs) (i * m + j) d ≡ get_or (f (get_or xs i e)) j d
rows_at f m xs same k j e d within inside =
    let before : length (flat_map f (take k xs)) ≡ k * m = rows_length f m (take k xs) same ∙ ap (λ n. n * m) (length-take-le k xs (omega arith)) in
    let long = same (get_or xs k e) in
    ap (λ n. get_or (flat_map f xs) (n + j) d) (sym before) ∙ get_or-flat_map f xs k j e d within (omega (arith, long))

-- the numbers of a range
length-rising : (n : ℕ) (low : ℤ) → length (rising low n) ≡ n
length-rising zero low = refl
length-rising (suc n) low = ap suc (length-rising n (low +ℤ pos 1))

get_or-rising : (n : ℕ) (low : ℤ) (i : ℕ) (d : ℤ) → i < n → get_or (rising low n) i d ≡ low +ℤ pos i
get_or-rising zero low i d within = absurd (omega arith)
get_or-rising (suc n) low zero d within = omega (arith, ints)
get_or-rising (suc n) low (suc i) d within = get_or-rising n (low +ℤ pos 1) i d (omega arith) ∙ omega (arith, ints)

pub length-values : (range : Range) → length (values range) ≡ width range
length-values range = length-rising (width range) range.low

pub get_or-values : (range : Range) (i : ℕ) → i < width range → get_or (values range) i (pos 0) ≡ range.low +ℤ pos i
get_or-values range i within = get_or-rising (width range) range.low i (pos 0) within

module _ (long : Bool) where
  -- the tics of a product, from the inside out
  abbrev uses : TicRanges → ℤ → ℤ → ℤ → List Tic
  uses ranges forward side turn = map (λ using. tic_with long forward side turn using) (values ranges.using)

  abbrev turns : TicRanges → ℤ → ℤ → List Tic
  turns ranges forward side = flat_map (uses ranges forward side) (values ranges.turn)

  abbrev sides : TicRanges → ℤ → List Tic
  sides ranges forward = flat_map (turns ranges forward) (values ranges.side)

  length-uses : (ranges : TicRanges) (forward side turn : ℤ) → length (uses ranges forward side turn) ≡ width ranges.using
  length-uses ranges forward side turn = length-map (values ranges.using) (λ using. tic_with long forward side turn using) ∙ length-values ranges.using

  length-turns : (ranges : TicRanges) (forward side : ℤ) → length (turns ranges forward side) ≡ width ranges.turn * width ranges.using
  length-turns ranges forward side =
      rows_length (uses ranges forward side) (width ranges.using) (values ranges.turn) (length-uses ranges forward side)
      ∙ ap (λ n. n * width ranges.using) (length-values ranges.turn)

  length-sides : (ranges : TicRanges) (forward : ℤ) → length (sides ranges forward) ≡ width ranges.side * (width ranges.turn * width ranges.using)
  length-sides ranges forward =
      rows_length (turns ranges forward) (width ranges.turn * width ranges.using) (values ranges.side) (length-turns ranges forward)
      ∙ ap (λ n. n * (width ranges.turn * width ranges.using)) (length-values ranges.side)

  tics_are : (ranges : TicRanges) → tics_of long ranges ≡ flat_map (sides ranges) (values ranges.forward)
  tics_are ranges = refl

  pub tic_count_is : (ranges : TicRanges) → tic_count long ranges ≡ width ranges.forward * (width ranges.side * (width ranges.turn * width ranges.using))
  tic_count_is ranges =
      ap length (tics_are ranges)
      ∙ rows_length (sides ranges) (width ranges.side * (width ranges.turn * width ranges.using)) (values ranges.forward) (length-sides ranges)
      ∙ ap (λ n. n * (width ranges.side * (width ranges.turn * width ranges.using))) (length-values ranges.forward)

  -- the tic at a place
  tic_in_product : (ranges : TicRanges) (f s t u : ℕ) (d : Tic) → f < width ranges.forward → s < width ranges.side → t < width ranges.turn → u < width ranges.using
      → get_or (tics_of long ranges) (f * (width ranges.side * (width ranges.turn * width ranges.using)) + (s * (width ranges.turn * width ranges.using) + (t * width ranges.using + u))) d
      ≡ tic_with long (ranges.forward.low +ℤ pos f) (ranges.side.low +ℤ pos s) (ranges.turn.low +ℤ pos t) (ranges.using.low +ℤ pos u)
  tic_in_product ranges f s t u d f_in s_in t_in u_in =
      let wu = width ranges.using in
      let wt = width ranges.turn in
      let ws = width ranges.side in
      let inner = mul-add-lt t wu u wt t_in u_in in
      let turns_in : t * wu + u < wt * wu = omega (arith, inner) in
      let outer = mul-add-lt s (wt * wu) (t * wu + u) ws s_in turns_in in
      let sides_in : s * (wt * wu) + (t * wu + u) < ws * (wt * wu) = omega (arith, outer) in
      ap (λ (xs : List Tic). get_or xs (f * (ws * (wt * wu)) + (s * (wt * wu) + (t * wu + u))) d) (tics_are ranges)
      ∙ rows_at (sides ranges) (ws * (wt * wu)) (values ranges.forward) (length-sides ranges) f (s * (wt * wu) + (t * wu + u)) (pos 0) d (rw (length-values ranges.forward) f_in) sides_in
      ∙ in_side (get_or (values ranges.forward) f (pos 0)) turns_in
      ∙ ap (λ n. tic_with long n (ranges.side.low +ℤ pos s) (ranges.turn.low +ℤ pos t) (ranges.using.low +ℤ pos u)) (get_or-values ranges.forward f f_in)
    where
      in_use : (forward side turn : ℤ) → get_or (uses ranges forward side turn) u d ≡ tic_with long forward side turn (ranges.using.low +ℤ pos u)
      in_use forward side turn =
          get_or-map (λ using. tic_with long forward side turn using) (values ranges.using) u (pos 0) d (rw (length-values ranges.using) u_in)
          ∙ ap (tic_with long forward side turn) (get_or-values ranges.using u u_in)

      in_turn : (forward side : ℤ) → get_or (turns ranges forward side) (t * width ranges.using + u) d ≡ tic_with long forward side (ranges.turn.low +ℤ pos t) (ranges.using.low +ℤ pos u)
      in_turn forward side =
          rows_at (uses ranges forward side) (width ranges.using) (values ranges.turn) (length-uses ranges forward side) t u (pos 0) d (rw (length-values ranges.turn) t_in) u_in
          ∙ in_use forward side (get_or (values ranges.turn) t (pos 0))
          ∙ ap (λ n. tic_with long forward side n (ranges.using.low +ℤ pos u)) (get_or-values ranges.turn t t_in)

      in_side : (forward : ℤ) → t * width ranges.using + u < width ranges.turn * width ranges.using
          → get_or (sides ranges forward) (s * (width ranges.turn * width ranges.using) + (t * width ranges.using + u)) d
          ≡ tic_with long forward (ranges.side.low +ℤ pos s) (ranges.turn.low +ℤ pos t) (ranges.using.low +ℤ pos u)
      in_side forward turns_in =
          rows_at (turns ranges forward) (width ranges.turn * width ranges.using) (values ranges.side) (length-turns ranges forward) s (t * width ranges.using + u) (pos 0) d (rw (length-values ranges.side) s_in) turns_in
          ∙ in_turn forward (get_or (values ranges.side) s (pos 0))
          ∙ ap (λ n. tic_with long forward n (ranges.turn.low +ℤ pos t) (ranges.using.low +ℤ pos u)) (get_or-values ranges.side s s_in)

-- a place is the sum of its digits
digits : (place wu wt ws : ℕ) → place ≡ place / wu / wt / ws * (ws * (wt * wu)) + (place / wu / wt % ws * (wt * wu) + (place / wu % wt * wu + place % wu))
digits place wu wt ws =
    let a = div-add-mod' place wu in
    let b = div-add-mod' (place / wu) wt in
    let c = div-add-mod' (place / wu / wt) ws in
    let b' = ap (λ n. n * wu) b in
    let c' = ap (λ n. n * (wt * wu)) c in
    omega (arith, a, b', c')

module _ (long : Bool) where
  pub forward_place : (ranges : TicRanges) (place : ℕ) → place < tic_count long ranges → 0 < width ranges.using → 0 < width ranges.turn → 0 < width ranges.side
      → place / width ranges.using / width ranges.turn / width ranges.side < width ranges.forward
  forward_place ranges place within some_use some_turn some_side =
      let few = tic_count_is long ranges in
      let a = div_below place (width ranges.using) (width ranges.forward * width ranges.side * width ranges.turn) some_use (omega (arith, few)) in
      let b = div_below (place / width ranges.using) (width ranges.turn) (width ranges.forward * width ranges.side) some_turn (omega (arith, a)) in
      div_below (place / width ranges.using / width ranges.turn) (width ranges.side) (width ranges.forward) some_side (omega (arith, b))

  pub tic_at_place : (ranges : TicRanges) (place : ℕ) (d : Tic) → place < tic_count long ranges → 0 < width ranges.using → 0 < width ranges.turn → 0 < width ranges.side
      → get_or (tics_of long ranges) place d
      ≡ tic_with long (ranges.forward.low +ℤ pos (place / width ranges.using / width ranges.turn / width ranges.side)) (ranges.side.low +ℤ pos (place / width ranges.using / width ranges.turn % width ranges.side))
      (ranges.turn.low +ℤ pos (place / width ranges.using % width ranges.turn)) (ranges.using.low +ℤ pos (place % width ranges.using))
  tic_at_place ranges place d within some_use some_turn some_side =
      ap (λ n. get_or (tics_of long ranges) n d) (digits place (width ranges.using) (width ranges.turn) (width ranges.side))
      ∙ tic_in_product long ranges (place / width ranges.using / width ranges.turn / width ranges.side) (place / width ranges.using / width ranges.turn % width ranges.side)
      (place / width ranges.using % width ranges.turn) (place % width ranges.using) d (forward_place ranges place within some_use some_turn some_side) (omega arith) (omega arith) (omega arith)

-- how wide the ranges are
natural_is : (n : ℤ) → pos 0 ≤ℤ n → pos (natural n) ≡ n
natural_is (pos n) h = refl
natural_is (negsuc n) h = absurd (omega (arith, ints))

pub width_is : (range : Range) → range.low ≤ℤ range.high → pos (width range) ≡ range.high +ℤ pos 1 -ℤ range.low
width_is range filled = natural_is (range.high +ℤ pos 1 -ℤ range.low) (omega (arith, ints))

pub some_width : (range : Range) → range.low ≤ℤ range.high → 0 < width range
some_width range filled = let is = width_is range filled in omega (arith, ints, is)

pub place_below : (range : Range) (place : ℕ) → range.low ≤ℤ range.high → place < width range → (range.low +ℤ pos place) ≤ℤ range.high
place_below range place filled within = let is = width_is range filled in omega (arith, ints, is)

-- the widths of ranges that a search may have
pub record FewTics (ranges : TicRanges) : Type 0 where
  pub forward : 0 < width ranges.forward
  pub forwards : width ranges.forward ≤ 255
  pub side : 0 < width ranges.side
  pub sides : width ranges.side ≤ 256
  pub turn : 0 < width ranges.turn
  pub turns : width ranges.turn ≤ 65536
  pub using : 0 < width ranges.using
  pub usings : width ranges.using ≤ 2

few_turns : (long : Bool) → turn_count long ≤ 65536
few_turns true = omega arith
few_turns false = omega arith

pub few_tics : (long : Bool) (ranges : TicRanges) → IsSound long ranges → FewTics ranges
few_tics long ranges sound =
    let f = width_is ranges.forward sound.filled.forward in
    let s = width_is ranges.side sound.filled.side in
    let u = width_is ranges.using sound.filled.using in
    record {
      forward = some_width ranges.forward sound.filled.forward;
      side = some_width ranges.side sound.filled.side;
      turn = some_width ranges.turn sound.filled.turn;
      using = some_width ranges.using sound.filled.using;
      forwards = omega (arith, ints, f, sound.bounds.forward.0.0, sound.bounds.forward.1.1);
      sides = omega (arith, ints, s, sound.bounds.side.0.0, sound.bounds.side.1.1);
      turns = omega (arith, sound.bounds.turns, few_turns long);
      usings = omega (arith, ints, u, sound.bounds.using.0.0, sound.bounds.using.1.1);
    }

-- and how many tics they hold
pub record CountsFew (ranges : TicRanges) (product : ℕ) : Type 0 where
  pub count : (long : Bool) → product ≡ tic_count long ranges
  pub some_tic : 0 < product
  pub few : product ≤ 2 ^ 33

positive : (a b : ℕ) → 0 < a → 0 < b → 0 < a * b
positive a b some_a some_b = mul-lt 0 0 a b some_a some_b

pub counts_few : (long : Bool) (ranges : TicRanges) → IsSound long ranges → CountsFew ranges (width ranges.forward * width ranges.side * width ranges.turn * width ranges.using)
counts_few long ranges sound =
    let few = few_tics long ranges sound in
    let wf = width ranges.forward in
    let ws = width ranges.side in
    let wt = width ranges.turn in
    let wu = width ranges.using in
    let a = mul-le wf ws 255 256 few.forwards few.sides in
    let b = mul-le (wf * ws) wt 65280 65536 (omega (arith, a)) few.turns in
    let c = mul-le (wf * ws * wt) wu 4278190080 2 (omega (arith, b)) few.usings in
    record {
      count = λ either. omega (arith, tic_count_is either ranges);
      some_tic = positive (wf * ws * wt) wu (positive (wf * ws) wt (positive wf ws few.forward few.side) few.turn) few.using;
      few = omega (arith, c);
    }

-- a number that was passed on is the same one
passed_on : (n : ℤ) → mag n < 2147483648 → to_z w32 (of_z w32 n) ≡ n
passed_on n fits = to_z-of_z w32 n (record { sfits = fits })

pub passed_between : (n low high : ℤ) (range : Range) → mag n < 2147483648 → range.low ≤ℤ n → n ≤ℤ range.high → IsWithin low high range → IsBetween low high (to_z w32 (of_z w32 n))
passed_between n low high range fits above below within =
    rw (passed_on n fits) (omega (arith, ints, within.0.0), omega (arith, ints, within.1.1))

-- the bounds of a turn, passed on
pub turns_within : (long : Bool) (range : Range) (low high : ℤ) (test : Bool) → mag low < 2147483648 → mag high < 2147483648 → low ≡ least_turn long → high ≡ greatest_turn long
    → IsTrue test ↔ IsWithin (to_z w32 (of_z w32 low)) (to_z w32 (of_z w32 high)) range → IsTrue test ↔ IsWithin (least_turn long) (greatest_turn long) range
turns_within long range low high test fits_low fits_high is_low is_high tells =
    let High : ℤ → Type 0 = λ x. IsTrue test ↔ IsWithin (to_z w32 (of_z w32 low)) x range in
    let Low : ℤ → Type 0 = λ x. IsTrue test ↔ IsWithin x (greatest_turn long) range in
    subst Low (passed_on low fits_low ∙ is_low) (subst High (passed_on high fits_high ∙ is_high) tells)

-- the tic that the code makes is the one at its place
pub tic_found : (long : Bool) (ranges : TicRanges) (place wu wt ws : ℕ) (f s t u : ℤ) (made : Tic) → IsSound long ranges → place < tic_count long ranges
    → wu ≡ width ranges.using → wt ≡ width ranges.turn → ws ≡ width ranges.side
    → mag f < 2147483648 → mag s < 2147483648 → mag t < 2147483648 → mag u < 2147483648
    → f ≡ ranges.forward.low +ℤ pos (place / wu / wt / ws) → s ≡ ranges.side.low +ℤ pos (place / wu / wt % ws)
    → t ≡ ranges.turn.low +ℤ pos (place / wu % wt) → u ≡ ranges.using.low +ℤ pos (place % wu)
    → made ≡ tic_with long (to_z w32 (of_z w32 f)) (to_z w32 (of_z w32 s)) (to_z w32 (of_z w32 t)) (to_z w32 (of_z w32 u))
    → slice_get (tics_of long ranges) place ≡ Some made
tic_found long ranges place wu wt ws f s t u made sound within wu_is wt_is ws_is ff fs ft fu f_is s_is t_is u_is is =
    let few = few_tics long ranges sound in
    let there = tic_at_place long ranges place made within few.using few.turn few.side in
    let same : made ≡ tic_with long f s t u =
    is ∙ ap (λ n. tic_with long n (to_z w32 (of_z w32 s)) (to_z w32 (of_z w32 t)) (to_z w32 (of_z w32 u))) (passed_on f ff)
    ∙ ap (λ n. tic_with long f n (to_z w32 (of_z w32 t)) (to_z w32 (of_z w32 u))) (passed_on s fs)
    ∙ ap (λ n. tic_with long f s n (to_z w32 (of_z w32 u))) (passed_on t ft)
    ∙ ap (λ n. tic_with long f s t n) (passed_on u fu) in
    slice_get-get_or (tics_of long ranges) place made within
    ∙ ap (λ (x : Tic). Some x) (there ∙ rw (← wu_is, ← wt_is, ← ws_is) (rw (← f_is, ← s_is, ← t_is, ← u_is) refl) ∙ sym same)

-- two places have two tics
same_sum : (low : ℤ) (i j : ℕ) → low +ℤ pos i ≡ low +ℤ pos j → i ≡ j
same_sum low i j e = omega (arith, ints, e)

same_of_256 : (m n : ℤ) → m ≤ℤ (n +ℤ pos 255) → n ≤ℤ (m +ℤ pos 255) → modulo m 256 ≡ modulo n 256 → m ≡ n
same_of_256 (pos m) (pos n) up down e = ap pos (omega (arith, ints, up, down, e))
same_of_256 (pos m) (negsuc n) up down e = absurd (omega (arith, ints, up, e))
same_of_256 (negsuc m) (pos n) up down e = absurd (omega (arith, ints, down, e))
same_of_256 (negsuc m) (negsuc n) up down e = ap negsuc (omega (arith, ints, up, down, e))

same_of_65536 : (m n : ℤ) → m ≤ℤ (n +ℤ pos 65535) → n ≤ℤ (m +ℤ pos 65535) → modulo m 65536 ≡ modulo n 65536 → m ≡ n
same_of_65536 (pos m) (pos n) up down e = ap pos (omega (arith, ints, up, down, e))
same_of_65536 (pos m) (negsuc n) up down e = absurd (omega (arith, ints, up, e))
same_of_65536 (negsuc m) (pos n) up down e = absurd (omega (arith, ints, down, e))
same_of_65536 (negsuc m) (negsuc n) up down e = ap negsuc (omega (arith, ints, up, down, e))

-- numbers of a range no longer than a circle, that say one turn, are one
same_turn : (long : Bool) (m n : ℤ) → m ≤ℤ (n +ℤ pos (turn_count long - 1)) → n ≤ℤ (m +ℤ pos (turn_count long - 1)) → turn_of long m ≡ turn_of long n → m ≡ n
same_turn true m n up down e = same_of_65536 m n up down e
same_turn false m n up down e = same_of_256 m n up down (omega (arith, e))

same_use : (m n : ℤ) → pos 0 ≤ℤ m → m ≤ℤ pos 1 → pos 0 ≤ℤ n → n ≤ℤ pos 1 → buttons_of m ≡ buttons_of n → m ≡ n
same_use (negsuc m) n m_low m_high n_low n_high e = absurd (omega (arith, ints, m_low))
same_use (pos m) (negsuc n) m_low m_high n_low n_high e = absurd (omega (arith, ints, n_low))
same_use (pos zero) (pos zero) m_low m_high n_low n_high e = refl
same_use (pos zero) (pos (suc zero)) m_low m_high n_low n_high e = absurd (omega (arith, e))
same_use (pos (suc zero)) (pos zero) m_low m_high n_low n_high e = absurd (omega (arith, e))
same_use (pos (suc zero)) (pos (suc zero)) m_low m_high n_low n_high e = refl
same_use (pos m) (pos (suc (suc n))) m_low m_high n_low n_high e = absurd (omega (arith, ints, n_high))
same_use (pos (suc (suc m))) (pos n) m_low m_high n_low n_high e = absurd (omega (arith, ints, m_high))

same_forwards : (m n : ℤ) → negsuc 126 ≤ℤ m → negsuc 126 ≤ℤ n → int_max (negsuc 126) m ≡ int_max (negsuc 126) n → m ≡ n
same_forwards m n m_low n_low e = omega (arith, ints, clamps, e)

pub tics_apart : (long : Bool) (ranges : TicRanges) (d e : ℕ) (x : Tic) → IsSound long ranges → d < tic_count long ranges → e < tic_count long ranges → get_or (tics_of long ranges) d x ≡ get_or (tics_of long ranges) e x → d ≡ e
tics_apart long ranges d e x sound d_in e_in equal =
    let few = few_tics long ranges sound in
    let wu = width ranges.using in
    let wt = width ranges.turn in
    let ws = width ranges.side in
    let tics = sym (tic_at_place long ranges d x d_in few.using few.turn few.side) ∙ equal ∙ tic_at_place long ranges e x e_in few.using few.turn few.side in
    let forward = ap (λ (tic : Tic). tic.forward) tics in
    let side = ap (λ (tic : Tic). tic.side) tics in
    let turn = ap (λ (tic : Tic). tic.turn) tics in
    let buttons = ap (λ (tic : Tic). tic.buttons) tics in
    let f : d / wu / wt / ws ≡ e / wu / wt / ws = same_sum ranges.forward.low (d / wu / wt / ws) (e / wu / wt / ws)
    (same_forwards _ _ (omega (arith, ints, sound.bounds.forward.0.0)) (omega (arith, ints, sound.bounds.forward.0.0)) forward) in
    let s : d / wu / wt % ws ≡ e / wu / wt % ws = same_sum ranges.side.low (d / wu / wt % ws) (e / wu / wt % ws) side in
    let d_turn : d / wu % wt < wt = mod-lt (d / wu) few.turn in
    let e_turn : e / wu % wt < wt = mod-lt (e / wu) few.turn in
    let d_use : d % wu < wu = mod-lt d few.using in
    let e_use : e % wu < wu = mod-lt e few.using in
    let t : d / wu % wt ≡ e / wu % wt = same_sum ranges.turn.low (d / wu % wt) (e / wu % wt)
    (same_turn long _ _ (omega (arith, ints, sound.bounds.turns, d_turn)) (omega (arith, ints, sound.bounds.turns, e_turn)) turn) in
    let u : d % wu ≡ e % wu = same_sum ranges.using.low (d % wu) (e % wu)
    (same_use _ _ (omega (arith, ints, sound.bounds.using.0.0)) (omega (arith, ints, place_below ranges.using (d % wu) sound.filled.using d_use, sound.bounds.using.1.1))
    (omega (arith, ints, sound.bounds.using.0.0)) (omega (arith, ints, place_below ranges.using (e % wu) sound.filled.using e_use, sound.bounds.using.1.1)) buttons) in
    digits d wu wt ws ∙ ap (λ n. n * (ws * (wt * wu)) + (d / wu / wt % ws * (wt * wu) + (d / wu % wt * wu + d % wu))) f
    ∙ ap (λ n. e / wu / wt / ws * (ws * (wt * wu)) + (n * (wt * wu) + (d / wu % wt * wu + d % wu))) s
    ∙ ap (λ n. e / wu / wt / ws * (ws * (wt * wu)) + (e / wu / wt % ws * (wt * wu) + (n * wu + d % wu))) t
    ∙ ap (λ n. e / wu / wt / ws * (ws * (wt * wu)) + (e / wu / wt % ws * (wt * wu) + (e / wu % wt * wu + n))) u
    ∙ sym (digits e wu wt ws)
