-- How far the reading of a text's tics has come, and what follows where it goes on or ends.
use Rattle.std.proofs.Common.{Bool, Option, Some, None, IfSome, ℕ, suc, add-zero, subst, ◌-◌, ◌+◌, ◌<◌, ◌≤◌, ◌≡◌, ◌≢◌, ◌++◌, List, [], ◌∷◌, length, take, drop, slice_index, arith, ap, sym, ◌∙◌, append_assoc}
use Rattle.std.specs.List.{AllByRecursion}
use Rattle.std.proofs.Math.Seq.{drop-cons, take-add}
use Rattle.std.proofs.lemmas.List.{take-append-drop, length_push, length-drop, flat_map_more, take_all, get_or-drop, take_rest}
use Rattle.lmp_codec.specs.Header.{is_long, IsHeader}
use Rattle.lmp_codec.specs.Demo.{tic_len, tic_bytes, spelled, most_tics, end_byte, FitsBytes, MayBeWritten, IsDemo, IsLong, IsCut}
use Rattle.lmp_codec.specs.declared.input.Tic.{Tic}
use Rattle.lmp_codec.proofs.Spelling.{AreBytes, tic_first, tic_begun}

-- up to this place the text is the header and these tics
pub record ReadSoFar (text header : List ℕ) (tics : List Tic) (at : ℕ) : Type 0 where
  pub so_far : take at text ≡ header ++ spelled header tics
  pub inside : at ≤ length text
  pub fits : AllByRecursion (FitsBytes (is_long header)) tics
  pub within : length tics ≤ most_tics

-- the text from this place on begins with the byte there
pub next_byte : (text : List ℕ) (at : ℕ) → at < length text → text ≡ take at text ++ slice_index text at ∷ drop (suc at) text
next_byte text at h = sym (take-append-drop at text) ∙ ap (λ (x : List ℕ). take at text ++ x) (drop-cons text at 0 h)

pub demo_here : (text header : List ℕ) (tics : List Tic) (at : ℕ) → ReadSoFar text header tics at → IsHeader header → at < length text → slice_index text at ≡ end_byte → IsDemo text header tics
demo_here text header tics at read valid inside ends = record {
  form = record { valid = valid; fits = read.fits; within = read.within };
  begins = (
    drop (suc at) text,
    next_byte text at inside
        ∙ ap (λ (x : List ℕ). x ++ slice_index text at ∷ drop (suc at) text) read.so_far
        ∙ ap (λ (x : ℕ). (header ++ spelled header tics) ++ x ∷ drop (suc at) text) ends
        ∙ sym (append_assoc (header ++ spelled header tics) (end_byte ∷ []) (drop (suc at) text)),
  );
}

pub long_here : (text header : List ℕ) (tics : List Tic) (at : ℕ) → ReadSoFar text header tics at → IsHeader header → at < length text → slice_index text at ≢ end_byte → length tics ≡ most_tics → IsLong text
long_here text header tics at read valid inside goes_on full = record {
  header = header;
  tics = tics;
  next = slice_index text at;
  rest = drop (suc at) text;
  form = record { valid = valid; fits = read.fits; within = read.within };
  full = full;
  goes_on = goes_on;
  front =
      next_byte text at inside
      ∙ ap (λ (x : List ℕ). x ++ slice_index text at ∷ drop (suc at) text) read.so_far;
}

pub not_empty : (xs : List ℕ) (x : ℕ) → xs ++ x ∷ [] ≢ []
not_empty [] x e = cc
not_empty (y ∷ xs) x e = cc

all_pushed : {X : Type 0} (P : X → Type 0) (xs : List X) (x : X) → AllByRecursion P xs → P x → AllByRecursion P (xs ++ x ∷ [])
all_pushed P [] x each last = (last, tt)
all_pushed P (y ∷ xs) x each last = (each.0, all_pushed P xs x each.1 last)

one_more : (tics : List Tic) (tic : Tic) → length tics ≢ most_tics → length tics ≤ most_tics → length (tics ++ tic ∷ []) ≤ most_tics
one_more tics tic room within = rw length_push (omega arith)

regroup : (a b c d : List ℕ) → (a ++ (b ++ c)) ++ d ≡ (a ++ b) ++ (c ++ d)
regroup a b c d = simp append_assoc

-- the text ends at a tic's place
pub cut_at_end : (text header : List ℕ) (tics : List Tic) (at : ℕ) → ReadSoFar text header tics at → IsHeader header → length text ≤ at → IsCut text
cut_at_end text header tics at read valid ends = record {
  header = header;
  tics = tics;
  more = end_byte ∷ [];
  form = record { valid = valid; fits = read.fits; within = read.within };
  missing = not_empty [] end_byte;
  front = ap (λ (x : List ℕ). x ++ end_byte ∷ []) (sym read.so_far ∙ take_all at text ends);
}

bytes_from : (text : List ℕ) (at : ℕ) → AreBytes text → AreBytes (drop at text)
bytes_from text at bytes k = rw get_or-drop (bytes (at + k))

-- the text is the front of what these tics and one more are written as
cut_by : (text header begun more : List ℕ) (tics : List Tic) (tic : Tic) → MayBeWritten header (tics ++ tic ∷ []) → text ≡ (header ++ spelled header tics) ++ begun → tic_bytes (is_long header) tic ≡ begun ++ more → IsCut text
cut_by text header begun more tics tic form here is = record {
  header = header;
  tics = tics ++ tic ∷ [];
  more = more ++ end_byte ∷ [];
  form = form;
  missing = not_empty more end_byte;
  front =
      ap (λ (x : List ℕ). x ++ end_byte ∷ []) (sym (flat_map_more (tic_bytes (is_long header)) header tics tic))
      ∙ ap (λ (x : List ℕ). ((header ++ spelled header tics) ++ x) ++ end_byte ∷ []) is
      ∙ regroup (header ++ spelled header tics) begun more (end_byte ∷ [])
      ∙ ap (λ (x : List ℕ). x ++ (more ++ end_byte ∷ [])) (sym here);
}

-- the text ends within a tic
pub cut_within : (text header : List ℕ) (tics : List Tic) (at : ℕ) → ReadSoFar text header tics at → IsHeader header → AreBytes text → at < length text → slice_index text at ≢ end_byte → length tics ≢ most_tics → length text < at + tic_len (is_long header) → IsCut text
cut_within text header tics at read valid bytes inside goes_on room short =
    let rest_bytes : AreBytes (slice_index text at ∷ drop (suc at) text) = subst AreBytes (drop-cons text at 0 inside) (bytes_from text at bytes) in
    let few : length (drop (suc at) text) + 1 < tic_len (is_long header) = simp length-drop (omega arith) in
    let begun = tic_begun (is_long header) (slice_index text at) (drop (suc at) text) goes_on rest_bytes few in
    cut_by text header (slice_index text at ∷ drop (suc at) text) begun.1 tics begun.0
    (record { valid = valid; fits = all_pushed (FitsBytes (is_long header)) tics begun.0 read.fits begun.3; within = one_more tics begun.0 room read.within })
    (next_byte text at inside ∙ ap (λ (x : List ℕ). x ++ slice_index text at ∷ drop (suc at) text) read.so_far)
    begun.2

-- a tic further
pub read_more : (text header : List ℕ) (tics : List Tic) (at : ℕ) (tic : Tic) → ReadSoFar text header tics at → length tics ≢ most_tics → at + tic_len (is_long header) ≤ length text
    → take (at + tic_len (is_long header)) text ≡ take at text ++ tic_bytes (is_long header) tic → FitsBytes (is_long header) tic → ReadSoFar text header (tics ++ tic ∷ []) (at + tic_len (is_long header))
read_more text header tics at tic read room whole spelled fits = record {
  so_far = spelled ∙ ap (λ (x : List ℕ). x ++ tic_bytes (is_long header) tic) read.so_far ∙ flat_map_more (tic_bytes (is_long header)) header tics tic;
  inside = whole;
  fits = all_pushed (FitsBytes (is_long header)) tics tic read.fits fits;
  within = one_more tics tic room read.within;
}

-- and there is one
pub read_on : (text header : List ℕ) (tics : List Tic) (at : ℕ) → ReadSoFar text header tics at → AreBytes text → slice_index text at ≢ end_byte → length tics ≢ most_tics → at + tic_len (is_long header) ≤ length text
    → (tic : Tic) × ReadSoFar text header (tics ++ tic ∷ []) (at + tic_len (is_long header))
read_on text header tics at read bytes goes_on room whole =
    let enough : tic_len (is_long header) ≤ length (drop at text) = simp length-drop (omega arith) in
    let here : slice_index (drop at text) 0 ≢ end_byte = rw (get_or-drop, add-zero) goes_on in
    let found = tic_first (is_long header) (drop at text) (bytes_from text at bytes) enough here in (
      found.0,
      read_more text header tics at found.0 read room whole
          (take-add at (tic_len (is_long header)) text ∙ ap (λ (x : List ℕ). take at text ++ x) (sym found.1))
          found.2,
    )

-- a tic that the text from a place on begins with
pub tic_further : (text : List ℕ) (at : ℕ) (long known : Bool) (found : Option Tic) → long ≡ known
    → IfSome found (λ tic. take (tic_len known) (take (length text - at) (drop at text)) ≡ tic_bytes known tic) → IfSome found (λ tic. take (at + tic_len long) text ≡ take at text ++ tic_bytes long tic)
tic_further text at long known None is spelled = spelled
tic_further text at long known (Some tic) is spelled =
    let Further : Bool → Type 0 = λ b. take (at + tic_len b) text ≡ take at text ++ tic_bytes b tic in
    subst Further (sym is)
    (take-add at (tic_len known) text
    ∙ ap (λ (x : List ℕ). take at text ++ x) (ap (take (tic_len known)) (sym (take_rest text at)) ∙ spelled))
