-- What a WAD that passes the test tells: its file, its map and its level are read without a fault.
use Rattle.std.proofs.Common.{◌≡◌, ℕ, zero, suc, ◌+◌, ◌-◌, ◌<◌, Bool, true, false, not, eqb, leb, List, [], ◌∷◌, refl, ap, ◌∙◌, subst, inl, inr, arith}
use Rattle.std.specs.Prelude.{◌≢◌, None, slice_index}
use Rattle.std.specs.Cmp.Lexicographic.{pointwise}
use Rattle.std.proofs.lemmas.Bool.{and_parts, leb-true, ltb-true, eqb-true, false≢true, cases_Bool}
use Rattle.fixed_angle.specs.FirstFault.{FirstFault}
use Rattle.wad_lumps.specs.Directory.{entry_count, name_of, file_conditions, HasHead, HasLump}
use Rattle.wad_lumps.specs.Map.{two_digit_label, lump_spans, lump_check, lump_conditions, map_conditions, IsLabel, IsMap, IsOtherForm}
use Rattle.wad_lumps.specs.declared.map.MapSpans.{MapSpans}
use Rattle.wad_lumps.proofs.Labels.{one_label, map_outcome}
use Rattle.map_load.specs.Load.{level_conditions}
use Rattle.map_load.specs.Spelled.{spelled}
use Rattle.gallery_laws.proofs.Tests.{passes, file_test, label_test, lump_test, form_test, wad_test}
use Rattle.gallery_laws.proofs.Tested.{passes_at, each_holds, level_sound}

not_true : (b : Bool) → not b ≡ true → b ≡ true → ⊥
not_true true is holds = false≢true is
not_true false is holds = false≢true holds

same_numbers : (xs ys : List ℕ) → pointwise eqb xs ys ≡ true → xs ≡ ys
same_numbers [] [] is = refl
same_numbers [] (y ∷ ys) is = absurd (false≢true is)
same_numbers (x ∷ xs) [] is = absurd (false≢true is)
same_numbers (x ∷ xs) (y ∷ ys) is =
    let parts = and_parts (eqb x y) (pointwise eqb xs ys) is in
    ap (λ n. n ∷ xs) (eqb-true x y parts.0) ∙ ap (λ rest. y ∷ rest) (same_numbers xs ys parts.1)

-- ---- the file

file_sound : (w : List ℕ) → file_test w ≡ true → FirstFault (file_conditions w) None
file_sound w is =
    let first = and_parts _ _ is in
    let second = and_parts _ _ first.1 in
    let third = and_parts _ _ second.1 in
    let fourth = and_parts _ _ third.1 in
    let head : HasHead w = record { long = leb-true _ _ first.0; letters = second.0; count = ltb-true _ _ third.0; start = ltb-true _ _ fourth.0 } in
    inl (head, inl (leb-true _ _ fourth.1, refl))

-- ---- the map

other_name : (name : List ℕ) → not (eqb (slice_index name 0) 77) ≡ true → name ≢ two_digit_label 1
other_name name is same = false≢true (subst (λ (xs : List ℕ). not (eqb (slice_index xs 0) 77) ≡ true) same is)

label_sound : (w : List ℕ) → label_test w ≡ true → IsLabel w 1 1 false 0
label_sound w is =
    let first = and_parts _ _ is in
    let second = and_parts _ _ first.1 in
    let last : (k : ℕ) → 0 < k → k < entry_count w → name_of w k ≢ two_digit_label 1 = later second.1 in
    record { there = ltb-true _ _ first.0; named = same_numbers _ _ second.0; last = last }
  where
    later : passes (entry_count w - 1) (λ k. not (eqb (slice_index (name_of w (suc k)) 0) 77)) ≡ true → (k : ℕ) → 0 < k → k < entry_count w → name_of w k ≢ two_digit_label 1
    later all zero above below = absurd (omega (arith, above))
    later all (suc k) above below = other_name (name_of w (suc k)) (passes_at (entry_count w - 1) (λ j. not (eqb (slice_index (name_of w (suc j)) 0) 77)) all k (omega (arith, below)))

lump_sound : (w : List ℕ) (i : ℕ) → lump_test w i ≡ true → HasLump w i
lump_sound w i is =
    let first = and_parts _ _ is in
    let second = and_parts _ _ first.1 in
    let third = and_parts _ _ second.1 in
    record { there = ltb-true _ _ first.0; place = ltb-true _ _ second.0; size = ltb-true _ _ third.0; lies = leb-true _ _ third.1 }

lumps_sound : (w : List ℕ) → passes 10 (λ k. lump_test w (0 + (k + 1))) ≡ true → FirstFault (lump_conditions w 0) None
unfolding lump_conditions
lumps_sound w is = each_holds (lump_check w 0) 10 (λ k below. inl (lump_sound w (0 + (k + 1)) (passes_at 10 (λ j. lump_test w (0 + (j + 1))) is k below), refl))

form_sound : (w : List ℕ) → form_test w ≡ true → IsOtherForm w 0 → ⊥
form_sound w is other =
    let parts = and_parts (not (eqb (slice_index (name_of w 1) 1) 69)) (leb (entry_count w) 11) is in
    let few = leb-true (entry_count w) 11 parts.1 in
    elim other [
      | inl text ↦ false≢true (subst (λ (xs : List ℕ). not (eqb (slice_index xs 1) 69) ≡ true) text parts.0)
      | inr behaviour ↦ let there = behaviour.0 in omega (arith, few, there)
    ]

-- ---- all of it

pub record Reads (w : List ℕ) : Type 0 where
  pub file : FirstFault (file_conditions w) None
  pub label : IsLabel w 1 1 false 0
  pub lumps : FirstFault (lump_conditions w 0) None
  pub own_form : IsOtherForm w 0 → ⊥
  pub level : FirstFault (level_conditions w (lump_spans w 0) false false) None

pub reads : (w : List ℕ) → wad_test w ≡ true → Reads w
unfolding level_conditions
reads w is =
    let first = and_parts _ _ is in
    let second = and_parts _ _ first.1 in
    let third = and_parts _ _ second.1 in
    let fourth = and_parts _ _ third.1 in
    let fifth = and_parts _ _ fourth.1 in
    record {
      file = file_sound w first.0;
      label = label_sound w second.0;
      lumps = lumps_sound w third.0;
      own_form = form_sound w fourth.0;
      level = inl (refl, inl (not_true _ fifth.0, level_sound (spelled w (lump_spans w 0) false) fifth.1));
    }

pub map_found : (w : List ℕ) → Reads w → FirstFault (map_conditions w 1 1) None
map_found w reads = map_outcome w 1 1 false 0 None reads.label reads.lumps

-- there is one map, and this is what is told of it
pub record Found (w : List ℕ) (found : MapSpans) : Type 0 where
  pub label : found.label ≡ 0
  pub spans : found.spans.items ≡ lump_spans w 0
  pub episode_form : found.episode_form ≡ false
  pub other_form : found.other_form ≡ false

pub found_so : (w : List ℕ) (found : MapSpans) → Reads w → IsMap w 1 1 found → Found w found
found_so w found reads is =
    let one = one_label w 1 1 found.episode_form false found.label 0 is.label reads.label in
    record {
      label = one.1;
      spans = is.spans ∙ ap (lump_spans w) one.1;
      episode_form = one.0;
      other_form = elim (cases_Bool found.other_form) [
        | inl true_form ↦ absurd (reads.own_form (subst (λ label. IsOtherForm w label) one.1 (is.other_form.0 true_form)))
        | inr false_form ↦ false_form
      ];
    }

pub level_reads : (w : List ℕ) (found : MapSpans) → Reads w → IsMap w 1 1 found → FirstFault (level_conditions w found.spans.items found.other_form found.episode_form) None
level_reads w found reads is =
    let so = found_so w found reads is in
    rw (so.spans, so.other_form, so.episode_form) reads.level
