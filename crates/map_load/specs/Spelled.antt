-- The lists that a map's lumps spell. All numbers are little endian.
use Rattle.std.specs.Prelude.{ℕ, ◌+◌, ◌-◌, ◌*◌, ◌/◌, ◌==◌, ℤ, pos, ◌*ℤ◌, ◌-ℤ◌, Bool, List, take, drop, map, slice_index, slice_index_or, Option, Some, None, option_map, if◌then◌else◌}
use Rattle.std.specs.List.{range_with_len}
use Rattle.fixed_angle.specs.Fixed.{wrap32}
use Rattle.map_geometry.specs.declared.records.Spot.{Spot}
use Rattle.map_geometry.specs.declared.records.Line.{Line}
use Rattle.map_geometry.specs.declared.records.Side.{Side}
use Rattle.map_geometry.specs.declared.records.Vertex.{Vertex}
use Rattle.map_geometry.specs.declared.records.Seg.{Seg}
use Rattle.map_geometry.specs.declared.records.Subsector.{Subsector}
use Rattle.map_geometry.specs.declared.records.Node.{Node}
use Rattle.map_geometry.specs.declared.records.Ground.{Ground}
use Rattle.map_geometry.specs.Lists.{Lists, no_line, no_vertex, no_seg}
use Rattle.map_geometry.specs.Derived.{signed_word, sector_of_side, sector_of_seg, slope_of, box_of}
use Rattle.wad_lumps.specs.Spelled.{word_at}

-- the signed number of 16 bits at a place, and the same as a length: in fixed point, of so many map units
abbrev pub short_at : List ℕ → ℕ → ℤ
short_at w at = signed_word (word_at w at)

abbrev pub length_at : List ℕ → ℕ → ℤ
length_at w at = short_at w at *ℤ pos 65536

-- A lump is a span: its place in the file and its length. It has one record after the other, all of one size;
-- what is left behind the last whole one is ignored.
unfoldable pub records : {X : Type 0} → (ℕ → X) → ℕ → ℕ × ℕ → List X
records record_at size span = map (λ i. record_at (span.0 + i * size)) (range_with_len 0 (span.1 / size))

-- ---- the records, each at its place in the file

-- 10 bytes: place, angle, number, options
unfoldable pub thing_at : List ℕ → ℕ → Spot
thing_at w at = record { x = length_at w at; y = length_at w (at + 2); angle = short_at w (at + 4); number = word_at w (at + 6); options = short_at w (at + 8) }

-- 30 bytes: two offsets, three names, sector
unfoldable pub side_at : List ℕ → ℕ → Side
side_at w at = record { x = short_at w at; y = short_at w (at + 2); sector = word_at w (at + 28) }

-- 4 bytes: place
unfoldable pub vertex_at : List ℕ → ℕ → Vertex
vertex_at w at = record { x = length_at w at; y = length_at w (at + 2) }

-- 12 bytes: two vertices, angle, line, side, offset
unfoldable pub seg_at : List ℕ → ℕ → Seg
seg_at w at = record { v1 = short_at w at; v2 = short_at w (at + 2); angle = short_at w (at + 4); line = word_at w (at + 6); side = word_at w (at + 8); offset = short_at w (at + 10) }

-- 28 bytes: the cut's place and way, two boxes, two children
unfoldable pub node_at : List ℕ → ℕ → Node
node_at w at = record { x = length_at w at; y = length_at w (at + 2); dx = length_at w (at + 4); dy = length_at w (at + 6); child_0 = word_at w (at + 24); child_1 = word_at w (at + 26) }

-- 26 bytes: floor, ceiling, two names, light, special, tag
unfoldable pub ground_at : List ℕ → ℕ → Ground
ground_at w at = record { floor = length_at w at; ceiling = length_at w (at + 2); light = short_at w (at + 20); special = word_at w (at + 22); tag = short_at w (at + 24) }

-- a line's back side, where it is not 0xFFFF
abbrev pub back_side_of : ℕ → Option ℕ
back_side_of word = if word == 65535 then None else Some word

-- how far one number is from another, so far as 32 bits tell
abbrev pub way : ℤ → ℤ → ℤ
way from to = wrap32 (to -ℤ from)

-- the vertex with a number, and (0, 0) where there is none
abbrev pub vertex_of : List Vertex → ℕ → Vertex
vertex_of vertices i = slice_index_or vertices i no_vertex

-- 14 bytes: two vertices, flags, special, tag, front side, back side; the other fields are left at 0
unfoldable pub line_words_at : List ℕ → ℕ → Line
line_words_at w at = record no_line {
  v1 = word_at w at;
  v2 = word_at w (at + 2);
  flags = short_at w (at + 4);
  special = word_at w (at + 6);
  tag = short_at w (at + 8);
  front_side = word_at w (at + 10);
  back_side = back_side_of (word_at w (at + 12));
}

-- the same line with the fields that follow from the places of its two vertices, and from its sides
unfoldable pub between : Vertex → Vertex → Line → Line
between from to line = record line {
  x = from.x;
  y = from.y;
  dx = way from.x to.x;
  dy = way from.y to.y;
  area = box_of from to;
  slope = slope_of (way from.x to.x) (way from.y to.y);
}

unfoldable pub facing : List Side → Line → Line
facing sides line = record line { front = sector_of_side sides line.front_side; back = option_map (sector_of_side sides) line.back_side }

-- a whole line
unfoldable pub line_at : List ℕ → List Vertex → List Side → ℕ → Line
line_at w vertices sides at =
    facing sides (between (vertex_of vertices (line_words_at w at).v1) (vertex_of vertices (line_words_at w at).v2) (line_words_at w at))

-- 4 bytes: how many segs, and the first of them; the sector follows from that seg's line and side
unfoldable pub subsector_at : List ℕ → List Line → List Side → List Seg → ℕ → Subsector
subsector_at w lines sides segs at = record { count = word_at w at; first = word_at w (at + 2); sector = sector_of_seg lines sides (slice_index_or segs (word_at w (at + 2)) no_seg) }

-- ---- the lists

-- the span of lump e, from 1 to 10
abbrev pub lump : List (ℕ × ℕ) → ℕ → ℕ × ℕ
lump spans e = slice_index_or spans (e - 1) (0, 0)

unfoldable pub sides_of : List ℕ → List (ℕ × ℕ) → List Side
sides_of w spans = records (side_at w) 30 (lump spans 3)

unfoldable pub vertices_of : List ℕ → List (ℕ × ℕ) → List Vertex
vertices_of w spans = records (vertex_at w) 4 (lump spans 4)

unfoldable pub segs_of : List ℕ → List (ℕ × ℕ) → List Seg
segs_of w spans = records (seg_at w) 12 (lump spans 5)

unfoldable pub lines_of : List ℕ → List (ℕ × ℕ) → List Line
lines_of w spans = records (line_at w (vertices_of w spans) (sides_of w spans)) 14 (lump spans 2)

unfoldable pub subsectors_of : List ℕ → List (ℕ × ℕ) → List Subsector
subsectors_of w spans = records (subsector_at w (lines_of w spans) (sides_of w spans) (segs_of w spans)) 4 (lump spans 6)

-- the words of the block map
unfoldable pub words_of : List ℕ → List (ℕ × ℕ) → List ℕ
words_of w spans = records (word_at w) 2 (lump spans 10)

-- The block map's words begin with its origin in map units, its width and height in blocks, and the place of each
-- block's list, row by row from the south.
abbrev pub cells_of : List ℕ → List ℕ
cells_of words = take (slice_index words 2 * slice_index words 3) (drop 4 words)

-- all lists of a map
unfoldable pub spelled : List ℕ → List (ℕ × ℕ) → Bool → Lists
spelled w spans episode_form = record {
  things = records (thing_at w) 10 (lump spans 1);
  lines = lines_of w spans;
  sides = sides_of w spans;
  vertices = vertices_of w spans;
  segs = segs_of w spans;
  subsectors = subsectors_of w spans;
  nodes = records (node_at w) 28 (lump spans 7);
  sectors = records (ground_at w) 26 (lump spans 8);
  cells = cells_of (words_of w spans);
  words = words_of w spans;
  origin_x = signed_word (slice_index (words_of w spans) 0) *ℤ pos 65536;
  origin_y = signed_word (slice_index (words_of w spans) 1) *ℤ pos 65536;
  width = slice_index (words_of w spans) 2;
  height = slice_index (words_of w spans) 3;
  episode_form = episode_form;
}
