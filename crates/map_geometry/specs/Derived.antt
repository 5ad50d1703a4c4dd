-- The fields of a level's records that follow from other records.
use Rattle.std.specs.Prelude.{◌≡◌, ℕ, zero, suc, ◌*◌, ℤ, pos, ◌-ℤ◌, ◌*ℤ◌, int_lt, List, take, drop, Option, Some, None, option_map, slice_index, slice_index_or, if◌then◌else◌}
use Rattle.std.specs.Option.{option_map_or}
use Rattle.std.specs.Ordering.{int_eq}
use Rattle.std.specs.Int.{w16, int_max, int_min, cast_signed}
use Rattle.fixed_angle.specs.Fixed.{wrap32, div}
use Rattle.map_geometry.specs.declared.records.Area.{Area}
use Rattle.map_geometry.specs.declared.records.Slope.{Slope}
use Rattle.map_geometry.specs.declared.records.Slope.TheVariants.{Horizontal, Vertical, Positive, Negative}
use Rattle.map_geometry.specs.declared.records.Line.{Line}
use Rattle.map_geometry.specs.declared.records.Side.{Side}
use Rattle.map_geometry.specs.declared.records.Vertex.{Vertex}
use Rattle.map_geometry.specs.declared.records.Seg.{Seg}
use Rattle.map_geometry.specs.declared.records.Subsector.{Subsector}
use Rattle.map_geometry.specs.Lists.{Lists, no_line, no_side, no_vertex, no_seg}

-- the slope of a way
abbrev pub slope_of : ℤ → ℤ → Slope
slope_of dx dy =
    if int_eq dx (pos 0) then Vertical
    else if int_eq dy (pos 0) then Horizontal
    else if int_lt (pos 0) (div dy dx) then Positive
    else Negative

-- the least rectangle that holds two places
abbrev pub box_of : Vertex → Vertex → Area
box_of a b = record { top = int_max a.y b.y; bottom = int_min a.y b.y; left = int_min a.x b.x; right = int_max a.x b.x }

-- the sector that a side faces
abbrev pub sector_of_side : List Side → ℕ → ℕ
sector_of_side sides side = (slice_index_or sides side no_side).sector

-- A line begins at its first vertex and leads to its second, so far as 32 bits tell. Its box is that of both.
-- Its sectors are those that its sides face.
pub record IsLineOf (vertices : List Vertex) (sides : List Side) (line : Line) : Type 0 where
  pub x : line.x ≡ (slice_index_or vertices line.v1 no_vertex).x
  pub y : line.y ≡ (slice_index_or vertices line.v1 no_vertex).y
  pub dx : line.dx ≡ wrap32 ((slice_index_or vertices line.v2 no_vertex).x -ℤ (slice_index_or vertices line.v1 no_vertex).x)
  pub dy : line.dy ≡ wrap32 ((slice_index_or vertices line.v2 no_vertex).y -ℤ (slice_index_or vertices line.v1 no_vertex).y)
  pub area : line.area ≡ box_of (slice_index_or vertices line.v1 no_vertex) (slice_index_or vertices line.v2 no_vertex)
  pub slope : line.slope ≡ slope_of line.dx line.dy
  pub front : line.front ≡ sector_of_side sides line.front_side
  pub back : line.back ≡ option_map (sector_of_side sides) line.back_side

-- the side of a line that a seg names: 0 is the front, 1 the back, and there is no other
abbrev pub side_of : Line → ℕ → Option ℕ
side_of line zero = Some line.front_side
side_of line (suc zero) = line.back_side
side_of line (suc (suc _)) = None

-- the sector that a seg faces, and 0 where its side is absent
abbrev pub sector_of_seg : List Line → List Side → Seg → ℕ
sector_of_seg lines sides seg = option_map_or (sector_of_side sides) (side_of (slice_index_or lines seg.line no_line) seg.side) 0

-- a subsector lies in the sector that its first seg faces
pub record IsSubsectorOf (lines : List Line) (sides : List Side) (segs : List Seg) (subsector : Subsector) : Type 0 where
  pub sector : subsector.sector ≡ sector_of_seg lines sides (slice_index_or segs subsector.first no_seg)

-- a word of 16 bits as a signed number
abbrev pub signed_word : ℕ → ℤ
signed_word word = cast_signed w16 word

-- The block map's words begin with its origin in map units, signed, then its width and height in blocks,
-- and then the place of each block's list.
pub record IsGridOf (words : List ℕ) (l : Lists) : Type 0 where
  pub origin_x : l.origin_x ≡ signed_word (slice_index words 0) *ℤ pos 65536
  pub origin_y : l.origin_y ≡ signed_word (slice_index words 1) *ℤ pos 65536
  pub width : l.width ≡ slice_index words 2
  pub height : l.height ≡ slice_index words 3
  pub cells : l.cells ≡ take (l.width * l.height) (drop 4 words)
