-- The lists of a block map, from the end of the words.
use Rattle.std.proofs.Common.{◌≡◌, ◌≢◌, ◌⊎◌, ◌↔◌, ℕ, zero, suc, ◌+◌, ◌-◌, ◌<◌, ◌≤◌, Bool, true, false, IsTrue, cond, eqb, List, [], ◌∷◌, length, drop, get_or, set, All, refl, sym, ap, ◌∙◌, inl, inr, arith}
use Rattle.std.proofs.Math.Numerals.{one-add}
use Rattle.std.specs.List.{before_first}
use Rattle.std.proofs.lemmas.Bool.{cases_eq, cases_lt, eq-eqb, ne_eqb, false≢true}
use Rattle.std.proofs.lemmas.List.{drop_more, drop_all, length-set, get_or-set_same, get_or-set_other}
use Rattle.std.proofs.lemmas.List.Elements.{All-nil, All-cons, All-head, All-tail}
use Rattle.map_geometry.specs.Blocks.{block_list, end_mark}
use Rattle.map_load.specs.Steps.{TellsSound}

-- a list is empty at an end mark, and else has its first word and the list behind it
list_at_mark : (words : List ℕ) (k : ℕ) → k < length words → get_or words k 0 ≡ end_mark → block_list words k ≡ []
list_at_mark words k below mark = rw (drop_more words k 0 below, mark) refl

list_at_entry : (words : List ℕ) (k : ℕ) → k < length words → get_or words k 0 ≢ end_mark → block_list words k ≡ get_or words k 0 ∷ block_list words (k + 1)
list_at_entry words k below other = rw (drop_more words k 0 below, ne_eqb (get_or words k 0) end_mark other, one-add) refl

abbrev pub IsSound : List ℕ → ℕ → ℕ → Type 0
IsSound words lines k = All (λ entry. entry < lines) (block_list words k)

-- the places from k on are judged, and so is the list at k
pub record Judged (words : List ℕ) (lines : ℕ) (sound : List Bool) (rest : Bool) (k : ℕ) : Type 0 where
  pub len : length sound ≡ length words
  pub here : IsTrue rest ↔ IsSound words lines k
  pub each : (j : ℕ) → k ≤ j → j < length words → IsTrue (get_or sound j false) ↔ IsSound words lines j

pub judged_back : (words : List ℕ) (lines : ℕ) (sound : List Bool) (rest new : Bool) (k : ℕ) → Judged words lines sound rest (k + 1) → k < length words
    → IsTrue new ↔ ((get_or words k 0 ≡ end_mark) ⊎ ((get_or words k 0 < lines) × IsTrue rest)) → Judged words lines (set sound k new) new k
judged_back words lines sound rest new k judged below step =
    let here : IsTrue new ↔ IsSound words lines k = elim (cases_eq (get_or words k 0) end_mark) [
      | inl mark ↦ rw (list_at_mark words k below mark) (λ _. All-nil (λ entry. entry < lines), λ _. step.1 (inl mark))
      | inr other ↦ rw (list_at_entry words k below other) (
        λ is. elim (step.0 is) [
          | inl mark ↦ absurd (other mark)
          | inr both ↦ All-cons (λ entry. entry < lines) (get_or words k 0) (block_list words (k + 1)) both.0 (judged.here.0 both.1)
        ],
        λ all. step.1 (inr (All-head (λ entry. entry < lines) (get_or words k 0) (block_list words (k + 1)) all, judged.here.1 (All-tail (λ entry. entry < lines) (get_or words k 0) (block_list words (k + 1)) all))),
      )
    ] in
    let within : k < length sound = omega (arith, judged.len, below) in
    record {
      len = length-set sound k new ∙ judged.len;
      here = here;
      each = λ j from inside. elim (cases_eq j k) [
        | inl same ↦ rw (same, get_or-set_same sound k new false within) here
        | inr apart ↦ rw (get_or-set_other sound k j new false apart) (judged.each j (omega (arith, from, apart)) inside)
      ];
    }

-- the whole of the words is judged
pub tells_sound : (words : List ℕ) (lines : ℕ) (sound : List Bool) (rest : Bool) (k : ℕ) → Judged words lines sound rest k → k ≡ 0 → TellsSound words lines sound
tells_sound words lines sound rest k judged none = record { len = judged.len; each = λ j below. judged.each j (omega (arith, none)) below }
