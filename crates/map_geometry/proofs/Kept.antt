-- What a level's index and its block lists give, as the code reads them.
use Rattle.std.proofs.Common.{◌≡◌, ℕ, zero, suc, ◌+◌, ◌-◌, ◌<◌, ◌≤◌, ◌==◌, ℤ, Bool, true, false, cond, List, [], length, take, drop, Option, Some, None, All, refl, sym, ap, ◌∙◌, subst, inl, inr, arith, take_all, ltb-false, slice_index_or}
use Rattle.std.specs.Option.{option_map_or}
use Rattle.std.specs.List.{before_first, position, position_or_len, range_with_len, filter}
use Rattle.std.specs.Prelude.{nat_lt}
use Rattle.std.proofs.lemmas.Bool.{cases_Bool}
use Rattle.std.proofs.lemmas.List.{get_or_read, take_rest}
use Rattle.std.proofs.lemmas.List.Elements.{All-filter}
use Rattle.std.proofs.lemmas.List.FromFn.{get_or-range_with_len, length-range_with_len}
use Rattle.map_geometry.specs.declared.level.LevelParts.{LevelParts}
use Rattle.map_geometry.specs.declared.sectors.Outline.{Outline}
use Rattle.map_geometry.specs.Lists.{Lists, nth_cell, nth_line}
use Rattle.map_geometry.specs.Blocks.{end_mark, block_list, block_lines, cell_of}
use Rattle.map_geometry.specs.Sectors.{IsOutline, no_outline, is_beside, lines_of}
use Rattle.map_geometry.specs.Level.{AreParts, lists_of}

-- ---- what stands before the first that passes

pub before_some : (p : ℕ → Bool) (xs : List ℕ) (k : ℕ) → Some k ≡ position p xs → take k xs ≡ before_first p xs
before_some p xs k at =
    elim (cases_Bool (nat_lt (position_or_len p xs) (length xs))) [
      | inl hit ↦ let at' : Some k ≡ Some (position_or_len p xs) = rw hit at at in let same : k ≡ position_or_len p xs = cc in rw same refl
      | inr miss ↦ let at' : Some k ≡ None = rw miss at at in absurd cc
    ]

pub before_none : (p : ℕ → Bool) (xs : List ℕ) → None ≡ position p xs → xs ≡ before_first p xs
before_none p xs at =
    elim (cases_Bool (nat_lt (position_or_len p xs) (length xs))) [
      | inl hit ↦ let at' : None ≡ Some (position_or_len p xs) = rw hit at at in absurd cc
      | inr miss ↦ sym (take_all (position_or_len p xs) xs (ltb-false (position_or_len p xs) (length xs) miss))
    ]

-- ---- a block's list

until_mark : (words xs : List ℕ) (place : ℕ) → xs ≡ before_first (λ word. word == end_mark) (take (length words - place) (drop place words)) → xs ≡ block_list words place
until_mark words xs place list = list ∙ ap (before_first (λ word. word == end_mark)) (take_rest words place)

pub block_read : (l now : Lists) → l ≡ now → (column row : ℤ) (cell place : ℕ) (words xs : List ℕ) → Some cell ≡ cell_of now.width now.height column row → place ≡ nth_cell now cell
    → words ≡ l.words → xs ≡ before_first (λ word. word == end_mark) (take (length words - place) (drop place words)) → xs ≡ block_lines now column row
block_read l now same column row cell place words xs at is read list =
    let here : xs ≡ block_list now.words (nth_cell now cell) = until_mark words xs place list ∙ ap (λ ws. block_list ws place) (read ∙ ap (λ (m : Lists). m.words) same) ∙ ap (block_list now.words) is in
    subst (λ (o : Option ℕ). xs ≡ option_map_or (λ cell. block_list now.words (nth_cell now cell)) o []) at here

pub block_there : (l now : Lists) → l ≡ now → (place : ℕ) (words xs : List ℕ) → words ≡ l.words → xs ≡ before_first (λ word. word == end_mark) (take (length words - place) (drop place words))
    → All (λ entry. entry < length now.lines) (block_list now.words place) → All (λ entry. entry < length now.lines) xs
block_there l now same place words xs read list there =
    let here : xs ≡ block_list now.words place = until_mark words xs place list ∙ ap (λ ws. block_list ws place) (read ∙ ap (λ (m : Lists). m.words) same) in
    subst (λ (ys : List ℕ). All (λ entry. entry < length now.lines) ys) (sym here) there

-- ---- a sector's lines

pub lines_there : (l : Lists) (sector : ℕ) → All (λ line. line < length l.lines) (lines_of l sector)
unfolding lines_of
lines_there l sector =
    All-filter (λ i. is_beside sector (nth_line l i)) (λ line. line < length l.lines) (range_with_len 0 (length l.lines))
    (λ k d below. let small : k < length l.lines = rw (length-range_with_len 0 (length l.lines)) at below in rw (get_or-range_with_len 0 (length l.lines) k d small) (omega (arith, small)))

pub outline_read : (parts : LevelParts) (now : Lists) → lists_of parts ≡ now → AreParts parts → (i : ℕ) → i < length now.sectors → (outline : Outline) → outline ≡ slice_index_or parts.outlines.items i outline
    → IsOutline now parts.sector_lines.items i outline
outline_read parts now same are i lt outline read =
    let P : Lists → Type 0 = λ m. i < length m.sectors → IsOutline m parts.sector_lines.items i outline in
    subst P same (λ below.
    let inside : i < length parts.outlines.items = rw are.index.count below in
    rw (get_or_read parts.outlines.items i outline inside read no_outline) (are.index.each i below)) lt

pub sector_lines_there : (now : Lists) (i : ℕ) (xs : List ℕ) → xs ≡ lines_of now i → All (λ line. line < length now.lines) xs
sector_lines_there now i xs is = subst (λ (ys : List ℕ). All (λ line. line < length now.lines) ys) (sym is) (lines_there now i)
