-- A walk along one list of the block map.
use Rattle.std.proofs.Common.{◌≡◌, ◌≢◌, ℕ, ◌+◌, ◌/◌, ◌<◌, ◌≤◌, List, [], ◌∷◌, ◌++◌, length, get_or, refl, ◌∙◌, arith, All}
use Rattle.std.proofs.Math.Numerals.{one-add}
use Rattle.std.proofs.lemmas.Bool.{ne_eqb}
use Rattle.std.proofs.lemmas.Nat.{div_below}
use Rattle.std.proofs.lemmas.List.{drop_more, drop_all}
use Rattle.std.proofs.lemmas.List.Elements.{All-head, All-tail}
use Rattle.map_geometry.specs.Lists.{Lists}
use Rattle.map_geometry.specs.Blocks.{block_list, end_mark}
use Rattle.block_walk.specs.Steps.{HasBits, Adds, is_marked, fresh}
use Rattle.block_walk.proofs.Fresh.{IsKept, Leads, leads_begin, leads_step, leads_end, leads_many}

-- a list is empty at an end mark and behind the words, and else has its first word and the list behind it
list_at_mark : (words : List ℕ) (at : ℕ) → at < length words → get_or words at 0 ≡ end_mark → block_list words at ≡ []
list_at_mark words at below mark = rw (drop_more words at 0 below, mark) refl

pub list_at_line : (words : List ℕ) (at : ℕ) → at < length words → get_or words at 0 ≢ end_mark → block_list words at ≡ get_or words at 0 ∷ block_list words (at + 1)
list_at_line words at below other = rw (drop_more words at 0 below, ne_eqb (get_or words at 0) end_mark other, one-add) refl

list_at_end : (words : List ℕ) (at : ℕ) → length words ≤ at → block_list words at ≡ []
list_at_end words at past = rw (drop_all at words past) refl

-- a walk along the list at `place` has come to the word `at`
pub record IsOnList {X : Type 0} (keep : List ℕ → List X) (l : Lists) (place at : ℕ) (old met : List ℕ) (before out : List X) : Type 0 where
  pub entries : All (λ entry. entry < length l.lines) (block_list l.words at)
  pub leads : Leads keep old met before out (block_list l.words place) (block_list l.words at)

pub on_list_begin : {X : Type 0} (keep : List ℕ → List X) (l : Lists) (place : ℕ) (met : List ℕ) (out : List X) → All (λ entry. entry < length l.lines) (block_list l.words place) → IsOnList keep l place place met met out out
on_list_begin keep l place met out entries = record { entries = entries; leads = leads_begin keep met out (block_list l.words place) }

-- a line's word, with its bit
pub has_bit : (l : Lists) (met : List ℕ) (line : ℕ) → HasBits l met → line < length l.lines → line < 65536 → line / 64 < length met
has_bit l met line bits there small = div_below line 64 (length met) (omega arith) (omega (arith, bits.enough))

pub entry_there : {X : Type 0} (keep : List ℕ → List X) (l : Lists) (place at line : ℕ) (old met : List ℕ) (before out : List X) → IsOnList keep l place at old met before out
    → at < length l.words → line ≡ get_or l.words at 0 → line ≢ end_mark → line < length l.lines
entry_there keep l place at line old met before out on below is other =
    let here : get_or l.words at 0 ≢ end_mark = λ mark. other (is ∙ mark) in
    rw is (All-head (λ entry. entry < length l.lines) (get_or l.words at 0) (block_list l.words (at + 1)) (rw (list_at_line l.words at below here) at on.entries))

pub on_list_step : {X : Type 0} (keep : List ℕ → List X) → IsKept keep → (l : Lists) (place at line : ℕ) (old met new : List ℕ) (before out next : List X) → IsOnList keep l place at old met before out
    → at < length l.words → line ≡ get_or l.words at 0 → line ≢ end_mark → Adds keep met new out next (line ∷ [])
    → IsOnList keep l place (at + 1) old new before next
on_list_step keep kept l place at line old met new before out next on below is other adds =
    let here : get_or l.words at 0 ≢ end_mark = λ mark. other (is ∙ mark) in
    let split : block_list l.words at ≡ line ∷ block_list l.words (at + 1) = rw is (list_at_line l.words at below here) in
    let ahead : Leads keep old met before out (block_list l.words place) (line ∷ block_list l.words (at + 1)) = rw split at on.leads in
    record {
      entries = All-tail (λ entry. entry < length l.lines) line (block_list l.words (at + 1)) (rw split at on.entries);
      leads = leads_step keep kept old met new before out next (block_list l.words place) (line ∷ []) (block_list l.words (at + 1)) ahead adds;
    }

-- what is too much at a line is too much in the end
pub on_list_many : {X : Type 0} (keep : List ℕ → List X) → IsKept keep → (l : Lists) (place at line : ℕ) (old met : List ℕ) (before out : List X) (most : ℕ) → IsOnList keep l place at old met before out
    → at < length l.words → line ≡ get_or l.words at 0 → line ≢ end_mark → most < length (out ++ keep (fresh (is_marked met) (line ∷ [])))
    → most < length (before ++ keep (fresh (is_marked old) (block_list l.words place)))
on_list_many keep kept l place at line old met before out most on below is other many =
    let here : get_or l.words at 0 ≢ end_mark = λ mark. other (is ∙ mark) in
    let split : block_list l.words at ≡ line ∷ block_list l.words (at + 1) = rw is (list_at_line l.words at below here) in
    leads_many keep kept old met before out (block_list l.words place) (line ∷ []) (block_list l.words (at + 1)) most (rw split at on.leads) many

-- ---- the list ends, by its mark or with the words

module _ {X : Type 0} (keep : List ℕ → List X) (kept : IsKept keep) (l : Lists) (place at : ℕ) (old met : List ℕ) (before out : List X) (on : IsOnList keep l place at old met before out) where
  done : block_list l.words at ≡ [] → Adds keep old met before out (block_list l.words place)
  done none = leads_end keep kept old met before out (block_list l.words place) (rw none at on.leads)

  pub done_at_mark : at < length l.words → get_or l.words at 0 ≡ end_mark → Adds keep old met before out (block_list l.words place)
  done_at_mark below mark = done (list_at_mark l.words at below mark)

  pub done_at_end : length l.words ≤ at → Adds keep old met before out (block_list l.words place)
  done_at_end past = done (list_at_end l.words at past)
