-- Which words of the block map were passed.
use Rattle.std.proofs.Common.{◌≡◌, ℕ, ◌+◌, ◌<◌, ◌≤◌, true, eqb, List, [], ◌∷◌, ◌++◌, length, get_or, ◌≢◌, refl, sym, ap, ◌∙◌, inl, inr, arith}
use Rattle.std.proofs.lemmas.Bool.{cases_Bool, cases_eq}
use Rattle.std.proofs.lemmas.List.{append-nil}
use Rattle.map_geometry.specs.Lists.{Lists}
use Rattle.map_geometry.specs.Blocks.{block_list, end_mark}
use Rattle.block_walk.specs.Steps.{is_marked, has, Marks, ArePassed, LieIn, MarksOnly, Adds}
use Rattle.block_walk.proofs.Fresh.{IsKept, Leads, leads_step, leads_end, fresh_all_seen, Marks_all_seen}
use Rattle.block_walk.proofs.Joined.{was_marked, now_marked}
use Rattle.block_walk.proofs.Ahead.{IsOnList, list_at_line, on_list_step}

-- ---- marks in a range

pub range_end : (old met : List ℕ) (first at stop : ℕ) → (first < at → at ≤ stop) → MarksOnly old met first at → MarksOnly old met first stop
range_end old met first at stop before only = record {
  each = λ n set. elim (only.each n set) [
    | inl was ↦ inl was
    | inr within ↦ inr (within.0, (let more : first < at = omega (arith, within.0, within.1) in omega (arith, before more, within.1)))
  ];
}

-- ---- words that were passed

pub kept_passed : (l : Lists) (old new xs passed : List ℕ) → Marks old new xs → ArePassed l old passed → ArePassed l new passed
kept_passed l old new xs passed marks are = record { each = λ at line set on. was_marked old new xs marks line (are.each at line set on) }

-- the words of a list, when its lines were marked
pub list_passed : (l : Lists) (old new passed passed' : List ℕ) (place stop : ℕ) → Marks old new (block_list l.words place) → LieIn l.words place stop → ArePassed l old passed → MarksOnly passed passed' place stop → ArePassed l new passed'
list_passed l old new passed passed' place stop marks lie are only = record {
  each = λ at line set on. elim (only.each at set) [
    | inl was ↦ was_marked old new (block_list l.words place) marks line (are.each at line was on)
    | inr within ↦ now_marked old new (block_list l.words place) marks line (lie.each at line within.0 within.1 on)
  ];
}

-- ---- a walk along a list

behind_first : (x : ℕ) (xs ys : List ℕ) (n : ℕ) → ys ≡ x ∷ xs → has xs n ≡ true → has ys n ≡ true
behind_first x xs ys n is within = rw is (elim (cases_Bool (eqb x n)) [ inl same ↦ rw same refl | inr other ↦ rw other within ])

pub lie_step : (words : List ℕ) (place at : ℕ) → at < length words → get_or words at 0 ≢ end_mark → place ≤ at → LieIn words place (at + 1) → LieIn words place (at + 1 + 1)
lie_step words place at within other from lie = record {
  each = λ n line n_from below on. elim (cases_eq n (at + 1)) [
    | inl last ↦
        let here : has (block_list words (at + 1)) line ≡ true = rw (← last) on in
        lie.each at line from (omega arith) (behind_first (get_or words at 0) (block_list words (at + 1)) (block_list words at) line (list_at_line words at within other) here)
    | inr before ↦ lie.each n line n_from (omega (arith, below, before)) on
  ];
}

-- a walk ends early where all that is ahead is marked
pub done_at_passed : {X : Type 0} (keep : List ℕ → List X) → IsKept keep → (l : Lists) (place at : ℕ) (old met passed : List ℕ) (before out : List X) → IsOnList keep l place at old met before out
    → ArePassed l met passed → is_marked passed at ≡ true → Adds keep old met before out (block_list l.words place)
done_at_passed keep kept l place at old met passed before out on are set =
    let ahead = block_list l.words at in
    let seen : (line : ℕ) → has ahead line ≡ true → is_marked met line ≡ true = λ line within. are.each at line set within in
    let nothing : Adds keep met met out out ahead = record {
      marks = Marks_all_seen met ahead seen;
      more = sym (append-nil out) ∙ ap (λ zs. out ++ zs) (sym kept.nil ∙ ap keep (sym (fresh_all_seen (is_marked met) ahead seen)));
    } in
    let leads : Leads keep old met before out (block_list l.words place) (ahead ++ []) = rw (append-nil ahead) on.leads in
    leads_end keep kept old met before out (block_list l.words place) (leads_step keep kept old met met before out out (block_list l.words place) ahead [] leads nothing)

-- a walk along the list at `place` has come to the word `at`, and so have the words that were passed
pub record IsAtWord {X : Type 0} (keep : List ℕ → List X) (l : Lists) (place at : ℕ) (old met bits : List ℕ) (before out : List X) : Type 0 where
  pub on : IsOnList keep l place at old met before out
  pub passed : ArePassed l met bits
  pub from : place ≤ at
  pub lie : LieIn l.words place (at + 1)

pub at_word_step : {X : Type 0} (keep : List ℕ → List X) → IsKept keep → (l : Lists) (place at line : ℕ) (old met new bits : List ℕ) (before out next : List X) → IsAtWord keep l place at old met bits before out
    → at < length l.words → line ≡ get_or l.words at 0 → line ≢ end_mark → Adds keep met new out next (line ∷ []) → IsAtWord keep l place (at + 1) old new bits before next
at_word_step keep kept l place at line old met new bits before out next on below is other adds = record {
  on = on_list_step keep kept l place at line old met new before out next on.on below is other adds;
  passed = kept_passed l met new (line ∷ []) bits adds.marks on.passed;
  from = omega (arith, on.from);
  lie = lie_step l.words place at below (λ mark. other (is ∙ mark)) on.from on.lie;
}
