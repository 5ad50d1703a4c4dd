-- The lines of each sector, as they are gathered and joined.
use Rattle.std.proofs.Common.{◌≡◌, ℕ, zero, suc, ◌+◌, ◌<◌, ◌≤◌, true, false, cond, List, [], ◌∷◌, ◌++◌, length, take, drop, All, refl, sym, ap, ◌∙◌, subst, inl, inr, arith, add-one, add-zero, length-append, length-drop, append-nil, take_all, get_or}
use Rattle.std.specs.List.{filter, range_with_len, fold}
use Rattle.std.specs.Prelude.{Option, Some, None}
use Rattle.std.proofs.lemmas.Bool.{cases_Bool, cases_lt}
use Rattle.std.proofs.lemmas.List.{get_or_append_left, get_or_read, take-append-le, drop-append-le}
use Rattle.std.proofs.Math.Seq.{get_or-append_seam, drop-append_seam}
use Rattle.std.proofs.lemmas.List.Elements.{filter-append}
use Rattle.map_geometry.specs.declared.records.Line.{Line}
use Rattle.map_geometry.specs.declared.records.Area.{Area}
use Rattle.map_geometry.specs.declared.sectors.Outline.{Outline}
use Rattle.map_geometry.specs.Lists.{Lists, nth_line, no_line}
use Rattle.map_geometry.specs.Sectors.{is_beside, lines_of, holding, area_of, block_box_by, block_box_of, IsOutline, IsIndex, no_outline}
use Rattle.map_geometry.proofs.Kept.{sector_lines_there}
use Rattle.map_load.specs.declared.index.SectorLines.{SectorLines}
use Rattle.map_load.specs.Index.{AreEmpty, GainsLine, first_lines, HaveLines, AreOutlines}

-- ---- gathered

pub empty_begin : AreEmpty 0 []
empty_begin = record { len = refl; each = λ k d below. absurd (omega (arith, below)) }

pub empty_more : (count : ℕ) (sectors : List SectorLines) (sector : SectorLines) → AreEmpty count sectors → sector.lines.items ≡ [] → AreEmpty (count + 1) (sectors ++ sector ∷ [])
empty_more count sectors sector are none = record {
  len = simp length-append (omega (arith, are.len));
  each = λ k d below. elim (cases_lt k (length sectors)) [
    | inl before ↦ rw (get_or_append_left sectors (sector ∷ []) d k before) (are.each k d before)
    | inr behind ↦
        let last : k ≡ length sectors = let size : length (sectors ++ sector ∷ []) ≡ length sectors + 1 = simp length-append refl in omega (arith, below, behind, size) in
        rw (last, get_or-append_seam sectors sector [] d) none
  ];
}

pub lines_begin : (l : Lists) (sectors : List SectorLines) → AreEmpty (length l.sectors) sectors → HaveLines l 0 sectors
unfolding first_lines
lines_begin l sectors are = record { len = are.len; each = λ k d below. are.each k d (rw are.len below) }

range_more : (a n : ℕ) → range_with_len a (suc n) ≡ range_with_len a n ++ (a + n) ∷ []
range_more a zero = ap (λ x. x ∷ []) (sym (add-zero a))
range_more a (suc n) =
    let next : a + 1 + n ≡ a + suc n = omega arith in
    ap (λ rest. a ∷ rest) (range_more (a + 1) n ∙ ap (λ x. range_with_len (a + 1) n ++ x ∷ []) next)

first_more : (l : Lists) (i k : ℕ) → first_lines l (i + 1) k ≡ first_lines l i k ++ cond (is_beside k (nth_line l i)) (i ∷ []) []
unfolding first_lines
first_more l i k =
    let here : 0 + i ≡ i = omega arith in
    let more : range_with_len 0 (i + 1) ≡ range_with_len 0 i ++ i ∷ [] = rw add-one (range_more 0 i ∙ ap (λ x. range_with_len 0 i ++ x ∷ []) here) in
    ap (filter (λ n. is_beside k (nth_line l n))) more ∙ filter-append (λ n. is_beside k (nth_line l n)) (range_with_len 0 i) (i ∷ [])

pub lines_more : (l : Lists) (i : ℕ) (line : Line) (old new : List SectorLines) → HaveLines l i old → i < length l.lines → line ≡ get_or l.lines i line → GainsLine old new line i → HaveLines l (i + 1) new
lines_more l i line old new have below read gains = record {
  len = gains.len ∙ have.len;
  each = λ k d within.
      let inside : k < length old = rw have.len within in
      let before = have.each k d within in
      let same : line ≡ nth_line l i = get_or_read l.lines i line below read no_line in
      let after = rw same at (gains.each k d inside) in
      after ∙ (elim (cases_Bool (is_beside k (nth_line l i))) [
        | inl beside ↦ rw (beside, before) (sym (rw beside at (first_more l i k)))
        | inr apart ↦ rw (apart, before) (sym (rw (apart, append-nil (first_lines l i k)) at (first_more l i k)))
      ]);
}

-- ---- joined

pub outlines_begin : (l : Lists) → AreOutlines l [] [] 0
outlines_begin l = record { len = refl; each = λ sector below. absurd (omega (arith, below)) }

all_lines : (l : Lists) (sector : ℕ) → first_lines l (length l.lines) sector ≡ lines_of l sector
unfolding first_lines lines_of
all_lines l sector = refl

-- the lines that were gathered are there
pub gathered_there : (l : Lists) (sector : ℕ) (lines : List ℕ) → lines ≡ first_lines l (length l.lines) sector → All (λ line. line < length l.lines) lines
gathered_there l sector lines own = sector_lines_there l sector lines (own ∙ all_lines l sector)

-- a part of a list is a part of a longer one
taken : (xs ys : List ℕ) (first count : ℕ) → first + count ≤ length xs → take count (drop first (xs ++ ys)) ≡ take count (drop first xs)
taken xs ys first count within =
    let inside : first ≤ length xs = omega (arith, within) in
    let fits : count ≤ length (drop first xs) = simp length-drop (omega (arith, within)) in
    ap (take count) (drop-append-le first xs ys inside) ∙ take-append-le count (drop first xs) ys fits

last_part : (xs ys : List ℕ) → take (length ys) (drop (length xs) (xs ++ ys)) ≡ ys
last_part xs ys = ap (take (length ys)) (drop-append_seam xs ys) ∙ take_all (length ys) ys (omega arith)

-- an outline holds where more is joined behind
outline_kept : (l : Lists) (joined more : List ℕ) (sector : ℕ) (outline : Outline) → IsOutline l joined sector outline → IsOutline l (joined ++ more) sector outline
outline_kept l joined more sector outline is = record {
  within = simp length-append (omega (arith, is.within));
  lines = taken joined more outline.first outline.count is.within ∙ is.lines;
  blocks = is.blocks;
}

newest : (l : Lists) (joined lines : List ℕ) (sector : ℕ) (outline : Outline) → lines ≡ first_lines l (length l.lines) sector → outline.first ≡ length joined → outline.count ≡ length lines
    → outline.blocks ≡ block_box_by l.origin_x l.origin_y l.width l.height (area_of l lines) → IsOutline l (joined ++ lines) sector outline
unfolding block_box_of
newest l joined lines sector outline own first many blocks =
    let all : lines ≡ lines_of l sector = own ∙ all_lines l sector in
    record {
      within = simp length-append (omega (arith, first, many));
      lines = rw (first, many) (last_part joined lines) ∙ all;
      blocks = blocks ∙ ap (λ some. block_box_by l.origin_x l.origin_y l.width l.height (area_of l some)) all;
    }

pub outlines_more : (l : Lists) (joined lines : List ℕ) (outlines : List Outline) (count : ℕ) (outline : Outline) → AreOutlines l joined outlines count → lines ≡ first_lines l (length l.lines) count
    → outline.first ≡ length joined → outline.count ≡ length lines → outline.blocks ≡ block_box_by l.origin_x l.origin_y l.width l.height (area_of l lines)
    → AreOutlines l (joined ++ lines) (outlines ++ outline ∷ []) (count + 1)
outlines_more l joined lines outlines count outline are own first many blocks = record {
  len = simp length-append (omega (arith, are.len));
  each = λ sector below. elim (cases_lt sector (length outlines)) [
    | inl before ↦ rw (get_or_append_left outlines (outline ∷ []) no_outline sector before) (outline_kept l joined lines sector (get_or outlines sector no_outline) (are.each sector (omega (arith, before, are.len))))
    | inr behind ↦
        let last : sector ≡ length outlines = omega (arith, below, behind, are.len) in
        let this : sector ≡ count = omega (arith, last, are.len) in
        rw (last, get_or-append_seam outlines outline [] no_outline) (rw (← last, this) (newest l joined lines count outline own first many blocks))
  ];
}

pub index_of : (l : Lists) (joined : List ℕ) (outlines : List Outline) (count : ℕ) → count ≡ length l.sectors → AreOutlines l joined outlines count → IsIndex l joined outlines
index_of l joined outlines count all are = record { count = are.len ∙ all; each = λ sector below. are.each sector (rw all below) }
