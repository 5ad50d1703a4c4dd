-- An order file, as a loop over its bytes reads it.
use Rattle.std.proofs.Common.{◌≡◌, ◌<◌, ◌≤◌, ◌+◌, ℕ, Bool, true, false, List, [], ◌∷◌, ◌++◌, length, map, take, drop, get_or, refl, ap, sym, subst, ◌∙◌, Option, Some, None, Result, Ok, Err, arith, not, if◌then◌else◌}
use Rattle.std.specs.Prelude.{All, filter}
use Rattle.std.specs.List.{find, range_with_len}
use Rattle.std.proofs.lemmas.List.{take-append-drop, take_all, map-append}
use Rattle.std.proofs.lemmas.List.Elements.{filter-append, All-nil, All-push}
use Rattle.std.proofs.lemmas.List.Folds.{find-append}
use Rattle.std.proofs.lemmas.List.FromFn.{length-range_with_len, get_or-range_with_len}
use Rattle.dsda_cli.proofs.FindLemmas.{one_missed, one_found, kept_with, kept_without}
use Rattle.dsda_cli.specs.Order.{begins_word, beginnings, hand_from, names_hand, order_of, order_unless}

module _ (bytes : List ℕ) where
  abbrev places : List ℕ
  places = range_with_len 0 (length bytes)

  -- the beginnings below a place
  abbrev so_far : ℕ → List ℕ
  so_far at = filter (begins_word bytes) (take at places)

  abbrev bad : ℕ → Bool
  bad place = not (names_hand bytes place)

  -- the words that begin below a place name these hands
  pub record ReadSoFar (at : ℕ) (hands : List ℕ) : Type 0 where
    pub sound : find bad (so_far at) ≡ None
    pub named : hands ≡ map (hand_from bytes) (so_far at)
    pub within : All (λ hand. hand < 64) hands

  inside : (at : ℕ) → at < length bytes → at < length places
  inside at within = subst (λ n. at < n) (sym (length-range_with_len 0 (length bytes))) within

  place_is : (at : ℕ) → at < length bytes → get_or places at 0 ≡ at
  place_is at within = let is = get_or-range_with_len 0 (length bytes) at 0 within in omega (arith, is)

  pub nothing_read : ReadSoFar 0 []
  nothing_read = record { sound = refl; named = refl; within = All-nil (λ hand. hand < 64) }

  without : (at : ℕ) → at < length bytes → begins_word bytes at ≡ false → so_far (at + 1) ≡ so_far at
  without at within fails = kept_without (begins_word bytes) places at 0 at (inside at within) (place_is at within) fails

  with_word : (at : ℕ) → at < length bytes → begins_word bytes at ≡ true → so_far (at + 1) ≡ so_far at ++ at ∷ []
  with_word at within begins = kept_with (begins_word bytes) places at 0 at (inside at within) (place_is at within) begins

  -- no word begins at the next place
  pub no_word : (at : ℕ) (hands : List ℕ) → at < length bytes → begins_word bytes at ≡ false → ReadSoFar at hands → ReadSoFar (at + 1) hands
  no_word at hands within fails read = record {
    sound = ap (find bad) (without at within fails) ∙ read.sound;
    named = read.named ∙ ap (map (hand_from bytes)) (sym (without at within fails));
    within = read.within;
  }

  one_good : (at : ℕ) → names_hand bytes at ≡ true → find bad (at ∷ []) ≡ None
  one_good at named = one_missed bad at (ap not named)

  one_bad : (at : ℕ) → names_hand bytes at ≡ false → find bad (at ∷ []) ≡ Some at
  one_bad at unnamed = one_found bad at (ap not unnamed)

  -- a word begins there that names a hand
  pub a_word : (at hand : ℕ) (hands : List ℕ) → at < length bytes → begins_word bytes at ≡ true → names_hand bytes at ≡ true → hand ≡ hand_from bytes at → hand < 64 → ReadSoFar at hands → ReadSoFar (at + 1) (hands ++ hand ∷ [])
  a_word at hand hands within begins named is few read = record {
    sound = ap (find bad) (with_word at within begins) ∙ find-append bad (so_far at) (at ∷ []) ∙ (rw (read.sound, one_good at named) refl);
    named =
        (λ k. read.named k ++ is k ∷ [])
        ∙ sym (map-append (hand_from bytes) (so_far at) (at ∷ []))
        ∙ ap (map (hand_from bytes)) (sym (with_word at within begins));
    within = All-push (λ hand. hand < 64) hands hand read.within few;
  }

  all_of_them : (at : ℕ) → beginnings bytes ≡ so_far at ++ filter (begins_word bytes) (drop at places)
  all_of_them at = ap (filter (begins_word bytes)) (sym (take-append-drop at places)) ∙ filter-append (begins_word bytes) (take at places) (drop at places)

  -- a word begins there that names none
  pub wrong_word : (at : ℕ) (hands : List ℕ) → at < length bytes → begins_word bytes at ≡ true → names_hand bytes at ≡ false → ReadSoFar at hands → order_of bytes ≡ Err at
  wrong_word at hands within begins unnamed read =
      let rest = filter (begins_word bytes) (drop (at + 1) places) in
      let all : beginnings bytes ≡ (so_far at ++ at ∷ []) ++ rest = all_of_them (at + 1) ∙ ap (λ front. front ++ rest) (with_word at within begins) in
      let behind : find bad (so_far at ++ at ∷ []) ≡ Some at = find-append bad (so_far at) (at ∷ []) ∙ (rw (read.sound, one_bad at unnamed) refl) in
      let found : find bad (beginnings bytes) ≡ Some at = ap (find bad) all ∙ find-append bad (so_far at ++ at ∷ []) rest ∙ (rw behind refl) in
      ap (order_unless bytes) found

  -- all bytes were read
  pub all_read : (at : ℕ) (hands : List ℕ) → length bytes ≤ at → ReadSoFar at hands → order_of bytes ≡ Ok hands
  all_read at hands past read =
      let all : so_far at ≡ beginnings bytes = ap (filter (begins_word bytes)) (take_all at places (omega (arith, past, length-range_with_len 0 (length bytes)))) in
      ap (order_unless bytes) (ap (find bad) (sym all) ∙ read.sound) ∙ ap Ok (ap (map (hand_from bytes)) (sym all) ∙ sym read.named)

-- a test that gave a value, or none
pub named_from : {X : Type 0} (test : Bool) (value given : X) → Some given ≡ (if test then Some value else None) → (test ≡ true) × (given ≡ value)
named_from true value given is = let same : given ≡ value = cc in (refl, same)
named_from false value given is = absurd cc

pub unnamed_from : {X : Type 0} (test : Bool) (value : X) → None ≡ (if test then Some value else None) → test ≡ false
unnamed_from true value is = absurd cc
unnamed_from false value is = refl
