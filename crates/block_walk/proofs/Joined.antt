-- The lists of blocks, joined, and those that were walked.
use Rattle.std.proofs.Common.{◌≡◌, ℕ, ◌<◌, true, false, ◌||◌, eqb, ltb, cond, List, [], ◌∷◌, ◌++◌, length, Option, Some, None, refl, sym, ap, ◌∙◌, inl, inr}
use Rattle.std.specs.Option.{option_map_or, option_map}
use Rattle.std.proofs.lemmas.Bool.{cases_Bool, false≢true}
use Rattle.std.proofs.lemmas.Bool.Decides.{Decides-eqb}
use Rattle.std.proofs.lemmas.List.{append-nil}
use Rattle.std.proofs.lemmas.List.Concat.{flat_map-append}
use Rattle.std.proofs.lemmas.List.Elements.{All-nil, All-append}
use Rattle.std.proofs.lemmas.List.Folds.{list_any-append}
use Rattle.map_geometry.specs.declared.blocks.BlockBox.{BlockBox}
use Rattle.map_geometry.specs.Lists.{Lists, nth_cell}
use Rattle.map_geometry.specs.Blocks.{block_list, block_lines, cell_of, blocks_in, cut_to_grid}
use Rattle.map_geometry.specs.Level.{IsCellIn, HasLines}
use Rattle.map_geometry.proofs.Walked.{cut_blocks}
use Rattle.map_geometry.specs.declared.blocks.Block.{Block}
use Rattle.block_walk.specs.Near.{place_of, near_all}
use Rattle.block_walk.specs.Steps.{is_marked, has, Marks, AreWalked, Adds, Meets, AreLines}
use Rattle.block_walk.proofs.Fresh.{IsKept, fresh_all_seen, Marks_all_seen, Marks-nil}

pub near_all-append : (l : Lists) (xs ys : List Block) → near_all l (xs ++ ys) ≡ near_all l xs ++ near_all l ys
near_all-append l xs ys = flat_map-append (λ block. block_lines l block.column block.row) xs ys

through : (f : ℕ → List ℕ) (g : ℕ → ℕ) (cell : Option ℕ) → option_map_or (λ c. f (g c)) cell [] ≡ option_map_or f (option_map g cell) []
through f g None = refl
through f g (Some c) = refl

-- a block's list by the place at which it begins
by_place : (l : Lists) (block : Block) → block_lines l block.column block.row ≡ option_map_or (block_list l.words) (place_of l block) []
unfolding place_of
by_place l block = through (block_list l.words) (nth_cell l) (cell_of l.width l.height block.column block.row)

pub near_all_none : (l : Lists) (block : Block) → place_of l block ≡ None → near_all l (block ∷ []) ≡ []
near_all_none l block none = ap (λ xs. xs ++ []) (by_place l block ∙ ap (λ (place : Option ℕ). option_map_or (block_list l.words) place []) none)

pub near_all_one : (l : Lists) (block : Block) (place : ℕ) → place_of l block ≡ Some place → near_all l (block ∷ []) ≡ block_list l.words place
near_all_one l block place some =
    ap (λ xs. xs ++ []) (by_place l block ∙ ap (λ (place : Option ℕ). option_map_or (block_list l.words) place []) some) ∙ append-nil (block_list l.words place)

-- blocks outside the grid have no lines
pub near_all_cut : (l : Lists) (box : BlockBox) → near_all l (blocks_in box) ≡ near_all l (blocks_in (cut_to_grid l.width l.height box))
near_all_cut l box = cut_blocks (λ block. block_lines l block.column block.row) l.width l.height (λ column row outside. rw outside refl) box

pub near_all_there : (l : Lists) → HasLines l → (blocks : List Block) → AreLines l (near_all l blocks)
near_all_there l lines [] = All-nil (λ line. line < length l.lines)
near_all_there l lines (block ∷ blocks) = All-append (λ line. line < length l.lines) (block_lines l block.column block.row) (near_all l blocks) (lines.each block.column block.row) (near_all_there l lines blocks)

-- ---- no walked list has a line that is not marked

pub walked_none : (l : Lists) (met : List ℕ) → AreWalked l met []
walked_none l met = record { each = λ place line within. absurd (false≢true within) }

pub was_marked : (old new xs : List ℕ) → Marks old new xs → (n : ℕ) → is_marked old n ≡ true → is_marked new n ≡ true
was_marked old new xs marks n was = marks.each n ∙ rw was refl

pub now_marked : (old new xs : List ℕ) → Marks old new xs → (n : ℕ) → has xs n ≡ true → is_marked new n ≡ true
now_marked old new xs marks n within = elim (cases_Bool (is_marked old n)) [
  | inl was ↦ was_marked old new xs marks n was
  | inr new_one ↦ marks.each n ∙ rw (new_one, within) refl
]

kept_walked : (l : Lists) (old new xs walked : List ℕ) → Marks old new xs → AreWalked l old walked → AreWalked l new walked
kept_walked l old new xs walked marks are = record { each = λ place line within on. was_marked old new xs marks line (are.each place line within on) }

one_more : (l : Lists) (old new walked : List ℕ) (place : ℕ) → Marks old new (block_list l.words place) → AreWalked l old walked → AreWalked l new (walked ++ place ∷ [])
one_more l old new walked place marks are = record {
  each = λ p line within on. elim (cases_Bool (has walked p)) [
    | inl before ↦ was_marked old new (block_list l.words place) marks line (are.each p line before on)
    | inr not_before ↦
        let either' = sym (list_any-append (λ x. eqb x p) walked (place ∷ [])) ∙ within in
        let last : (eqb place p || false) ≡ true = rw not_before at either' in
        elim (cases_Bool (eqb place p)) [
          | inl same ↦
              let one : place ≡ p = (Decides-eqb place p).0 same in
              now_marked old new (block_list l.words place) marks line (rw one on)
          | inr other ↦ absurd (false≢true (rw other at last))
        ]
  ];
}

pub walked_added : (l : Lists) (old new walked walked' : List ℕ) (place : ℕ) → Marks old new (block_list l.words place) → AreWalked l old walked
    → walked' ≡ cond (ltb (length walked) 64) (walked ++ place ∷ []) walked → AreWalked l new walked'
walked_added l old new walked walked' place marks are is = rw is (elim (cases_Bool (ltb (length walked) 64)) [
  | inl room ↦ rw room (one_more l old new walked place marks are)
  | inr full ↦ rw full (kept_walked l old new (block_list l.words place) walked marks are)
])

-- ---- a block outside the grid, one whose list was walked, and one whose list is walked now

module _ {X : Type 0} (keep : List ℕ → List X) (kept : IsKept keep) (l : Lists) (block : Block) (lists old : List ℕ) (before : List X) (are : AreWalked l old lists) where
  pub meets_nothing : place_of l block ≡ None → Meets keep l lists old old before before (block ∷ [])
  meets_nothing none =
      let empty = near_all_none l block none in
      record {
        walked = are;
        lines = rw empty (record { marks = Marks-nil old; more = sym (append-nil before) ∙ ap (λ zs. before ++ zs) (sym kept.nil) });
        there = rw empty (All-nil (λ line. line < length l.lines));
      }

  pub meets_again : (place : ℕ) → place_of l block ≡ Some place → IsCellIn l place → has lists place ≡ true → Meets keep l lists old old before before (block ∷ [])
  meets_again place some sound within =
      let one = near_all_one l block place some in
      let seen : (line : ℕ) → has (block_list l.words place) line ≡ true → is_marked old line ≡ true = λ line on. are.each place line within on in
      record {
        walked = are;
        lines = rw one (record {
          marks = Marks_all_seen old (block_list l.words place) seen;
          more = sym (append-nil before) ∙ ap (λ zs. before ++ zs) (sym kept.nil ∙ ap keep (sym (fresh_all_seen (is_marked old) (block_list l.words place) seen)));
        });
        there = rw one sound.entries;
      }

  pub meets_list : (new lists' : List ℕ) (after : List X) (place : ℕ) → place_of l block ≡ Some place → IsCellIn l place → Adds keep old new before after (block_list l.words place)
      → lists' ≡ cond (ltb (length lists) 64) (lists ++ place ∷ []) lists → Meets keep l lists' old new before after (block ∷ [])
  meets_list new lists' after place some sound adds is =
      let one = near_all_one l block place some in
      record { walked = walked_added l old new lists lists' place adds.marks are is; lines = rw one adds; there = rw one sound.entries }
