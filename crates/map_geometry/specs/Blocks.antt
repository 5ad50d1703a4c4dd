-- The grid of blocks, the lists of the block map, and boxes of blocks.
use Rattle.std.specs.Prelude.{◌≡◌, ℕ, ◌+◌, ◌*◌, ◌<◌, ◌≤◌, ◌==◌, ℤ, pos, negsuc, ◌+ℤ◌, ◌-ℤ◌, ◌≤ℤ◌, ◌<ℤ◌, Bool, ◌&&◌, int_le, int_lt, unsigned_abs, List, [], ◌++◌, length, drop, map, All, slice_index, Option, Some, None, if◌then◌else◌}
use Rattle.std.specs.Option.{option_map_or}
use Rattle.std.specs.Int.{int_div_euclid, int_max, int_min}
use Rattle.std.specs.List.{before_first, range_with_len, flat_map}
use Rattle.fixed_angle.specs.Fixed.{wrap32}
use Rattle.map_geometry.specs.declared.records.Area.{Area}
use Rattle.map_geometry.specs.declared.blocks.Block.{Block}
use Rattle.map_geometry.specs.declared.blocks.BlockBox.{BlockBox}
use Rattle.map_geometry.specs.Lists.{Lists, nth_cell}
use Rattle.map_geometry.specs.Derived.{signed_word}
use Rattle.map_geometry.specs.Sides.{less, plus}

-- the word that ends a list
abbrev pub end_mark : ℕ
end_mark = 65535

-- the list that begins at a place of the words: what stands before the end mark, its leading 0 with it
abbrev pub block_list : List ℕ → ℕ → List ℕ
block_list words offset = before_first (λ word. word == end_mark) (drop offset words)

-- a list that begins at this place has its end mark among the words
pub record ReachesEnd (words : List ℕ) (offset : ℕ) : Type 0 where
  pub place : ℕ
  pub after : offset ≤ place
  pub within : place < length words
  pub mark : slice_index words place ≡ end_mark

-- how many whole blocks a length has, rounded down: a block is 128 units of 65536 wide and high
abbrev pub blocks_below : ℤ → ℤ
blocks_below length = int_div_euclid length (pos 8388608)

-- The number of the column or row of blocks in which a coordinate lies, counted from where the block map begins. The
-- way from there wraps in 32 bits; columns to the west of it and rows to the south have negative numbers.
abbrev pub block_number : ℤ → ℤ → ℤ
block_number origin at = blocks_below (wrap32 (at -ℤ origin))

-- a grid of so many columns and rows has this column and this row
abbrev pub is_in_grid : ℕ → ℕ → ℤ → ℤ → Bool
is_in_grid width height column row = (int_le (pos 0) column && int_lt column (pos width)) && (int_le (pos 0) row && int_lt row (pos height))

-- the number of a block, row by row from the south
abbrev pub cell_number : ℕ → ℤ → ℤ → ℕ
cell_number width column row = unsigned_abs row * width + unsigned_abs column

-- the number of a block, where the grid has it
abbrev pub cell_of : ℕ → ℕ → ℤ → ℤ → Option ℕ
cell_of width height column row = if is_in_grid width height column row then Some (cell_number width column row) else None

-- The block map has its head of four words, at least one column and one row (both are signed words), the place
-- of each block's list, and the end of each list.
pub record HasBlockShape (words cells : List ℕ) : Type 0 where
  pub head : 4 ≤ length words
  pub width : pos 0 <ℤ signed_word (slice_index words 2)
  pub height : pos 0 <ℤ signed_word (slice_index words 3)
  pub offsets : 4 + slice_index words 2 * slice_index words 3 ≤ length words
  pub ends : All (ReachesEnd words) cells

-- the list of a block; outside the grid it is empty
abbrev pub block_lines : Lists → (column row : ℤ) → List ℕ
block_lines l column row = option_map_or (λ cell. block_list l.words (nth_cell l cell)) (cell_of l.width l.height column row) []

-- ---- boxes of blocks

-- the whole numbers from one to another, both with them; none where the second is below the first
unfoldable pub span : ℤ → ℤ → List ℤ
span low high = map (λ i. low +ℤ pos i) (range_with_len 0 (if int_le low high then unsigned_abs (high -ℤ low) + 1 else 0))

-- the blocks of a column, from one row to another
abbrev pub column_of : ℤ → ℤ → ℤ → List Block
column_of bottom top column = map (λ row. record { column = column; row = row }) (span bottom top)

-- the blocks of a box, column by column from the left, and each column from the bottom
abbrev pub blocks_in : BlockBox → List Block
blocks_in box = flat_map (column_of box.bottom box.top) (span box.left box.right)

-- the blocks of a box from this one on: those above it in its column, and the columns behind
abbrev pub blocks_left : BlockBox → Block → List Block
blocks_left box at =
    if int_le at.column box.right
    then column_of at.row box.top at.column ++ flat_map (column_of box.bottom box.top) (span (at.column +ℤ pos 1) box.right)
    else []

-- A walk through a box has come to this block. Its columns have small numbers; and a row that is past the top is past it
-- at the bottom already, so that there are no blocks at all.
pub record IsOnBox (box : BlockBox) (at : Block) : Type 0 where
  pub right : box.right ≤ℤ pos 65535
  pub row : box.top <ℤ at.row → box.top <ℤ box.bottom

-- no blocks
abbrev pub no_blocks : BlockBox
no_blocks = record { left = pos 0; right = negsuc 0; bottom = pos 0; top = negsuc 0 }

-- a box of blocks without what lies outside the grid: its low ends are cut to 0, its high ends to the last column and row
unfoldable pub cut_to_grid : ℕ → ℕ → BlockBox → BlockBox
cut_to_grid width height box = record {
  left = int_max box.left (pos 0);
  right = int_min box.right (pos width -ℤ pos 1);
  bottom = int_max box.bottom (pos 0);
  top = int_min box.top (pos height -ℤ pos 1);
}

-- ---- areas

-- the square around a place whose sides lie a radius away; its sides wrap in 32 bits
unfoldable pub box_around : (x y radius : ℤ) → Area
box_around x y radius = record { top = plus y radius; bottom = less y radius; left = less x radius; right = plus x radius }

-- an area with 32 map units more on each side, as far as the largest thing reaches; its sides wrap in 32 bits
unfoldable pub widened : Area → Area
widened area = record {
  top = plus area.top (pos 2097152);
  bottom = less area.bottom (pos 2097152);
  left = less area.left (pos 2097152);
  right = plus area.right (pos 2097152);
}

-- the blocks that an area touches in a grid with this corner, from the columns and rows of its four sides
unfoldable pub blocks_from : (origin_x origin_y : ℤ) → Area → BlockBox
blocks_from origin_x origin_y area = record {
  left = block_number origin_x area.left;
  right = block_number origin_x area.right;
  bottom = block_number origin_y area.bottom;
  top = block_number origin_y area.top;
}

abbrev pub blocks_of : Lists → Area → BlockBox
blocks_of l area = blocks_from l.origin_x l.origin_y area
