-- What follows of a level from the conditions that were judged.
use Rattle.std.proofs.Common.{subst, mul-le-mul_right, ap, ◌∙◌, length-take, length-drop, slice_index, slice_index_or, ◌≡◌, ◌⊎◌, ℕ, zero, suc, ◌+◌, ◌*◌, ◌<◌, ◌≤◌, ◌++◌, length, Option, Some, None, inl, inr, arith, IsSome, IfSome}
use Rattle.std.specs.Option.{option_map_or, option_map}
use Rattle.std.specs.Prelude.{ℤ, pos, ◌<ℤ◌, true, false, ◌&&◌, int_le, int_lt, unsigned_abs}
use Rattle.std.proofs.lemmas.Bool.{cases_Bool, false≢true}
use Rattle.std.proofs.lemmas.List.Elements.{All-nil}
use Rattle.std.proofs.lemmas.Int.{ints}
use Rattle.std.proofs.lemmas.List.{get_or_read}
use Rattle.fixed_angle.specs.FirstFault.{FirstFault, for_each}
use Rattle.fixed_angle.proofs.Order.{none_split, none_each}
use Rattle.map_geometry.specs.declared.records.Line.{Line}
use Rattle.map_geometry.specs.declared.records.Subsector.{Subsector}
use Rattle.map_geometry.specs.declared.records.Node.{Node}
use Rattle.map_geometry.specs.declared.fault.LevelFault.{LevelFault}
use Rattle.map_geometry.specs.Lists.{Lists, nth_line, nth_seg, nth_subsector, nth_node, nth_cell, no_line, no_subsector, no_node}
use Rattle.map_geometry.specs.Derived.{signed_word, sector_of_side, side_of}
use Rattle.map_geometry.specs.Blocks.{HasBlockShape, is_in_grid, cell_number}
use Rattle.map_geometry.specs.Nodes.{WalksEnd}
use Rattle.map_geometry.specs.Conditions.{back_faces_sector, line_conditions, some_subsector, subsector_conditions, node_conditions, no_loop, block_shape, cell_conditions, line_checks, subsector_checks, node_checks, block_checks, conditions}
use Rattle.map_geometry.specs.Level.{IsLevel, IsLineIn, IsSubsectorIn, IsNodeIn, IsCellIn, HasLines}

-- where none is false, the first holds, and none behind it is false
first_holds : {P Q : Type 0} {fault : LevelFault} → (P × Q) ⊎ ((P → ⊥) × (None ≡ Some fault)) → P × Q
first_holds (inl p) = p
first_holds (inr p) = absurd cc

-- the groups of conditions, each by itself
record IsChecked (l : Lists) : Type 0 where
  lines : (i : ℕ) → i < length l.lines → FirstFault (line_conditions l i) None
  some : 0 < length l.subsectors
  subsectors : (i : ℕ) → i < length l.subsectors → FirstFault (subsector_conditions l i) None
  nodes : (i : ℕ) → i < length l.nodes → FirstFault (node_conditions l i) None
  ends : WalksEnd l.nodes
  shape : HasBlockShape l.words l.cells
  cells : (i : ℕ) → i < length l.cells → FirstFault (cell_conditions l i) None

groups : (l : Lists) → FirstFault (conditions l) None → IsChecked l
groups l checked =
    let a = none_split (line_checks l) (subsector_checks l ++ (node_checks l ++ block_checks l)) checked in
    let b = none_split (subsector_checks l) (node_checks l ++ block_checks l) a.1 in
    let c = none_split (node_checks l) (block_checks l) b.1 in
    let subsectors = none_split (some_subsector l) (for_each (length l.subsectors) (subsector_conditions l)) b.0 in
    let nodes = none_split (for_each (length l.nodes) (node_conditions l)) (no_loop l) c.0 in
    let blocks = none_split (block_shape l) (for_each (length l.cells) (cell_conditions l)) c.1 in
    record {
      lines = λ i lt. none_each (line_conditions l) (length l.lines) i lt a.0;
      some = (first_holds subsectors.0).0;
      subsectors = λ i lt. none_each (subsector_conditions l) (length l.subsectors) i lt subsectors.1;
      nodes = λ i lt. none_each (node_conditions l) (length l.nodes) i lt nodes.0;
      ends = (first_holds nodes.1).0;
      shape = (first_holds blocks.0).0;
      cells = λ i lt. none_each (cell_conditions l) (length l.cells) i lt blocks.1;
    }

-- a line's references, as the conditions have them
record HoldsLine (l : Lists) (line : Line) : Type 0 where
  v1 : line.v1 < length l.vertices
  v2 : line.v2 < length l.vertices
  front_side : line.front_side < length l.sides
  back_side : IfSome line.back_side (λ side. side < length l.sides)
  front : sector_of_side l.sides line.front_side < length l.sectors
  back : FirstFault (back_faces_sector l line.back_side) None

line_holds : (l : Lists) (i : ℕ) → FirstFault (line_conditions l i) None → HoldsLine l (nth_line l i)
line_holds l i checked =
    let a = first_holds checked in
    let b = first_holds a.1 in
    let c = first_holds b.1 in
    let d = first_holds c.1 in
    let e = first_holds d.1 in
    record { v1 = a.0; v2 = b.0; front_side = c.0; back_side = d.0; front = e.0; back = e.1 }

-- the sector behind a line is there
back_within : (l : Lists) (back_side : Option ℕ) → FirstFault (back_faces_sector l back_side) None → IfSome (option_map (sector_of_side l.sides) back_side) (λ sector. sector < length l.sectors)
back_within l None checked = tt
back_within l (Some side) checked = (first_holds checked).0

sound_line : (l : Lists) → IsLevel l → (i : ℕ) → i < length l.lines → IsLineIn l (nth_line l i)
sound_line l level i lt =
    let held = line_holds l i ((groups l level.checked).lines i lt) in
    let derived = level.lines i no_line lt in
    record {
      v1 = held.v1;
      v2 = held.v2;
      front_side = held.front_side;
      back_side = held.back_side;
      front = rw derived.front held.front;
      back = rw derived.back (back_within l (nth_line l i).back_side held.back);
      derived = derived;
    }

-- the sector that a back side faces is there
back_faces : (l : Lists) (back_side : Option ℕ) → FirstFault (back_faces_sector l back_side) None → IsSome back_side → option_map_or (sector_of_side l.sides) back_side 0 < length l.sectors
back_faces l None checked present = absurd cc
back_faces l (Some side) checked present = (first_holds checked).0

-- the sector that a side of a line faces is there
faces : (l : Lists) (line : Line) → HoldsLine l line → (side : ℕ) → IsSome (side_of line side) → option_map_or (sector_of_side l.sides) (side_of line side) 0 < length l.sectors
faces l line held zero present = held.front
faces l line held (suc zero) present = back_faces l line.back_side held.back present
faces l line held (suc (suc _)) present = absurd cc

sound_subsector : (l : Lists) → IsLevel l → (i : ℕ) → i < length l.subsectors → IsSubsectorIn l (nth_subsector l i)
sound_subsector l level i lt =
    let held = groups l level.checked in
    let a = first_holds (held.subsectors i lt) in
    let b = first_holds a.1 in
    let c = first_holds b.1 in
    let d = first_holds c.1 in
    let seg = nth_seg l (nth_subsector l i).first in
    let derived = level.subsectors i no_subsector lt in
    record {
      count = a.0;
      first = b.0;
      sector = rw derived.sector (faces l (nth_line l seg.line) (line_holds l seg.line (held.lines seg.line c.0)) seg.side d.0);
      derived = derived;
    }

sound_node : (l : Lists) → IsLevel l → (i : ℕ) → i < length l.nodes → IsNodeIn l (nth_node l i)
sound_node l level i lt =
    let a = first_holds ((groups l level.checked).nodes i lt) in
    let b = first_holds a.1 in
    record { child_0 = a.0; child_1 = b.0 }

sound_cell : (l : Lists) → IsLevel l → (i : ℕ) → i < length l.cells → IsCellIn l (nth_cell l i)
sound_cell l level i lt =
    let held = groups l level.checked in
    let ends = held.shape.ends i 0 lt in
    let after = ends.after in
    let within = ends.within in
    record { begins = omega arith; ends = ends; entries = (first_holds (held.cells i lt)).0 }

-- a word that is above 0 as a signed number
positive_word : (word : ℕ) → pos 0 <ℤ signed_word word → (0 < word) × (word < 32768)
positive_word word above = grind (arith, ints)

-- how large the grid is
pub record HasSize (l : Lists) : Type 0 where
  pub columns : 0 < l.width
  pub columns_below : l.width < 32768
  pub rows : 0 < l.height
  pub rows_below : l.height < 32768
  pub cells : length l.cells ≡ l.width * l.height

pub size_of : (l : Lists) → IsLevel l → HasSize l
size_of l level =
    let shape = (groups l level.checked).shape in
    let grid = level.grid in
    let columns = positive_word (slice_index l.words 2) shape.width in
    let rows = positive_word (slice_index l.words 3) shape.height in
    let width : l.width ≡ slice_index l.words 2 = grid.width in
    let height : l.height ≡ slice_index l.words 3 = grid.height in
    let room : 4 + l.width * l.height ≤ length l.words = rw (width, height) shape.offsets in
    record {
      columns = rw width columns.0;
      columns_below = rw width columns.1;
      rows = rw height rows.0;
      rows_below = rw height rows.1;
      cells = ap length grid.cells ∙ simp (length-take, length-drop) (omega arith);
    }

abs_below : (count : ℕ) (z : ℤ) → (int_le (pos 0) z && int_lt z (pos count)) ≡ true → unsigned_abs z < count
abs_below count z inside = grind (arith, ints, inside)

row_and_column : (width height column row : ℕ) → column < width → row < height → row * width + column < width * height
row_and_column width height column row west south =
    let rows : (row + 1) * width ≤ height * width = mul-le-mul_right width (omega (arith, south)) in
    omega (arith, rows, west)

-- a block of the grid is one of the cells
cell_below : (width height : ℕ) (column row : ℤ) → is_in_grid width height column row ≡ true → cell_number width column row < width * height
cell_below width height column row inside =
    elim (cases_Bool (int_le (pos 0) column && int_lt column (pos width))) [
      | inl columns ↦
          let rows : (int_le (pos 0) row && int_lt row (pos height)) ≡ true = rw columns at inside in
          let west : unsigned_abs column < width = abs_below width column columns in
          let south : unsigned_abs row < height = abs_below height row rows in
          row_and_column width height (unsigned_abs column) (unsigned_abs row) west south
      | inr outside ↦ absurd (false≢true (rw outside at inside))
    ]

lines_in_blocks : (l : Lists) → IsLevel l → HasLines l
lines_in_blocks l level = record {
  each = λ column row. elim (cases_Bool (is_in_grid l.width l.height column row)) [
    | inl inside ↦
        let below : cell_number l.width column row < length l.cells = rw (size_of l level).cells (cell_below l.width l.height column row inside) in
        rw inside (sound_cell l level (cell_number l.width column row) below).entries
    | inr outside ↦ rw outside (All-nil (λ line. line < length l.lines))
  ];
}

-- ---- what a reader gives, where the level's lists are `now`

pub line_read : (l now : Lists) → l ≡ now → IsLevel l → (i : ℕ) → i < length now.lines → (line : Line) → line ≡ slice_index_or l.lines i line → IsLineIn now line
line_read l now same level i lt line read =
    let P : Lists → Type 0 = λ m. i < length m.lines → IsLineIn m line in
    subst P same (λ below. rw (get_or_read l.lines i line below read no_line) (sound_line l level i below)) lt

pub subsector_read : (l now : Lists) → l ≡ now → IsLevel l → (i : ℕ) → i < length now.subsectors → (subsector : Subsector) → subsector ≡ slice_index_or l.subsectors i subsector → IsSubsectorIn now subsector
subsector_read l now same level i lt subsector read =
    let P : Lists → Type 0 = λ m. i < length m.subsectors → IsSubsectorIn m subsector in
    subst P same (λ below. rw (get_or_read l.subsectors i subsector below read no_subsector) (sound_subsector l level i below)) lt

pub node_read : (l now : Lists) → l ≡ now → IsLevel l → (i : ℕ) → i < length now.nodes → (node : Node) → node ≡ slice_index_or l.nodes i node → IsNodeIn now node
node_read l now same level i lt node read =
    let P : Lists → Type 0 = λ m. i < length m.nodes → IsNodeIn m node in
    subst P same (λ below. rw (get_or_read l.nodes i node below read no_node) (sound_node l level i below)) lt

pub cell_read : (l now : Lists) → l ≡ now → IsLevel l → (i : ℕ) → i < length now.cells → (cell : ℕ) → cell ≡ slice_index_or l.cells i cell → IsCellIn now cell
cell_read l now same level i lt cell read =
    let P : Lists → Type 0 = λ m. i < length m.cells → IsCellIn m cell in
    subst P same (λ below. rw (get_or_read l.cells i cell below read 0) (sound_cell l level i below)) lt

pub cells_read : (l now : Lists) → l ≡ now → IsLevel l → (count : ℕ) → count ≡ length l.cells → count ≡ now.width * now.height
cells_read l now same level count read = let P : Lists → Type 0 = λ m. count ≡ m.width * m.height in subst P same (read ∙ (size_of l level).cells)

pub level_ends : (l now : Lists) → l ≡ now → IsLevel l → WalksEnd now.nodes
level_ends l now same level = let P : Lists → Type 0 = λ m. WalksEnd m.nodes in subst P same (groups l level.checked).ends

pub some_subsectors : (l : Lists) → IsLevel l → 0 < length l.subsectors
some_subsectors l level = (groups l level.checked).some

pub lines_read : (l now : Lists) → l ≡ now → IsLevel l → HasLines now
lines_read l now same level = subst HasLines same (lines_in_blocks l level)
