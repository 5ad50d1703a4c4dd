-- Of a sector: its lines, its neighbours, the blocks round it.
use Rattle.std.specs.Prelude.{◌≡◌, ℕ, ◌+◌, ◌-◌, ◌<◌, ◌≤◌, ◌==◌, ◌||◌, not, ℤ, Bool, false, List, length, take, drop, filter, fold, bit_and, slice_index_or, Option, Some, None, if◌then◌else◌}
use Rattle.std.specs.Ordering.{int_eq}
use Rattle.std.specs.Int.{w16, int_max, int_min, cast_unsigned}
use Rattle.std.specs.List.{range_with_len, filter_map}
use Rattle.map_geometry.specs.declared.records.Area.{Area}
use Rattle.map_geometry.specs.declared.records.Line.{Line}
use Rattle.map_geometry.specs.declared.blocks.BlockBox.{BlockBox}
use Rattle.map_geometry.specs.declared.sectors.Outline.{Outline}
use Rattle.map_geometry.specs.Lists.{Lists, nth_line, nth_sector}
use Rattle.map_geometry.specs.Blocks.{blocks_from, no_blocks, cut_to_grid, widened}

-- whether a line has a flag: 1 blocks, 2 blocks things other than the player, 4 has two sides
abbrev pub has_flag : Line → ℕ → Bool
has_flag line flag = not (bit_and (cast_unsigned w16 line.flags) flag == 0)

-- whether this is the number of a sector
abbrev pub is_sector : ℕ → Option ℕ → Bool
is_sector sector None = false
is_sector sector (Some other) = other == sector

-- whether a line has the sector in front or behind
abbrev pub is_beside : ℕ → Line → Bool
is_beside sector line = line.front == sector || is_sector sector line.back

-- a sector's lines, in the order of lines, each once
unfoldable pub lines_of : Lists → ℕ → List ℕ
lines_of l sector = filter (λ i. is_beside sector (nth_line l i)) (range_with_len 0 (length l.lines))

-- What lies across a line from a sector: nothing where the line has not the flag of two sides; the sector behind it,
-- if there is one, where this one is in front; and else the one in front. It may be the same sector.
abbrev pub neighbour_across : ℕ → Line → Option ℕ
neighbour_across sector line =
    if has_flag line 4 then (if line.front == sector then line.back else Some line.front)
    else None

-- a sector's neighbours, in the order of its lines, with repeats
abbrev pub neighbours : Lists → ℕ → List ℕ
neighbours l sector = filter_map (λ i. neighbour_across sector (nth_line l i)) (lines_of l sector)

-- the sectors with a tag, in their order
abbrev pub sectors_with_tag : Lists → ℤ → List ℕ
sectors_with_tag l tag = filter (λ i. int_eq (nth_sector l i).tag tag) (range_with_len 0 (length l.sectors))

-- those of them from a number on
abbrev pub with_tag_from : Lists → ℤ → ℕ → List ℕ
with_tag_from l tag from = filter (λ i. int_eq (nth_sector l i).tag tag) (range_with_len from (length l.sectors - from))

-- ---- the blocks round a sector

-- the least rectangle that holds what was held, if anything was, and one area more
abbrev pub holding : Option Area → Area → Area
holding None area = area
holding (Some held) area = record {
  top = int_max held.top area.top;
  bottom = int_min held.bottom area.bottom;
  left = int_min held.left area.left;
  right = int_max held.right area.right;
}

-- the least rectangle that holds some lines; none where there are none
abbrev pub area_of : Lists → List ℕ → Option Area
area_of l lines = fold (λ held i. Some (holding held (nth_line l i).area)) None lines

-- The blocks that a rectangle touches once it is widened, in a grid with this corner and size, without those outside it.
-- Without a rectangle there are none.
abbrev pub block_box_by : (origin_x origin_y : ℤ) (width height : ℕ) → Option Area → BlockBox
block_box_by origin_x origin_y width height None = no_blocks
block_box_by origin_x origin_y width height (Some area) = cut_to_grid width height (blocks_from origin_x origin_y (widened area))

-- the blocks round a sector: those that its lines' rectangle touches so
unfoldable pub block_box_of : Lists → ℕ → BlockBox
block_box_of l sector = block_box_by l.origin_x l.origin_y l.width l.height (area_of l (lines_of l sector))

-- ---- how a level keeps them

-- An outline says where a sector's lines stand among the joined lines of all sectors, and has its blocks.
pub record IsOutline (l : Lists) (joined : List ℕ) (sector : ℕ) (outline : Outline) : Type 0 where
  pub within : outline.first + outline.count ≤ length joined
  pub lines : take outline.count (drop outline.first joined) ≡ lines_of l sector
  pub blocks : outline.blocks ≡ block_box_of l sector

abbrev pub no_outline : Outline
no_outline = record { first = 0; count = 0; blocks = no_blocks }

-- there is an outline of each sector
pub record IsIndex (l : Lists) (joined : List ℕ) (outlines : List Outline) : Type 0 where
  pub count : length outlines ≡ length l.sectors
  pub each : (sector : ℕ) → sector < length l.sectors → IsOutline l joined sector (slice_index_or outlines sector no_outline)
