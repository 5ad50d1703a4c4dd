-- The lists of a level, and what stands at a number in them.
use Rattle.std.specs.Prelude.{ℕ, ℤ, pos, Bool, List, None, slice_index, slice_index_or}
use Rattle.map_geometry.specs.declared.records.Spot.{Spot}
use Rattle.map_geometry.specs.declared.records.Area.{Area}
use Rattle.map_geometry.specs.declared.records.Slope.TheVariants.{Vertical}
use Rattle.map_geometry.specs.declared.records.Line.{Line}
use Rattle.map_geometry.specs.declared.records.Side.{Side}
use Rattle.map_geometry.specs.declared.records.Vertex.{Vertex}
use Rattle.map_geometry.specs.declared.records.Seg.{Seg}
use Rattle.map_geometry.specs.declared.records.Subsector.{Subsector}
use Rattle.map_geometry.specs.declared.records.Node.{Node}
use Rattle.map_geometry.specs.declared.records.Ground.{Ground}

-- A level is these lists and numbers. `words` are the words of the block map, `cells` the place of each
-- block's list in them, row by row from the south.
pub record Lists : Type 0 where
  pub things : List Spot
  pub lines : List Line
  pub sides : List Side
  pub vertices : List Vertex
  pub segs : List Seg
  pub subsectors : List Subsector
  pub nodes : List Node
  pub sectors : List Ground
  pub cells : List ℕ
  pub words : List ℕ
  pub origin_x : ℤ
  pub origin_y : ℤ
  pub width : ℕ
  pub height : ℕ
  pub episode_form : Bool

-- ---- what a list is said to have past its end: a record of zeros

abbrev pub no_thing : Spot
no_thing = record { x = pos 0; y = pos 0; angle = pos 0; number = 0; options = pos 0 }

abbrev pub no_area : Area
no_area = record { top = pos 0; bottom = pos 0; left = pos 0; right = pos 0 }

abbrev pub no_line : Line
no_line = record {
  v1 = 0;
  v2 = 0;
  front_side = 0;
  back_side = None;
  flags = pos 0;
  special = 0;
  tag = pos 0;
  x = pos 0;
  y = pos 0;
  dx = pos 0;
  dy = pos 0;
  area = no_area;
  slope = Vertical;
  front = 0;
  back = None;
}

abbrev pub no_side : Side
no_side = record { x = pos 0; y = pos 0; sector = 0 }

abbrev pub no_vertex : Vertex
no_vertex = record { x = pos 0; y = pos 0 }

abbrev pub no_seg : Seg
no_seg = record { v1 = pos 0; v2 = pos 0; angle = pos 0; line = 0; side = 0; offset = pos 0 }

abbrev pub no_subsector : Subsector
no_subsector = record { count = 0; first = 0; sector = 0 }

abbrev pub no_node : Node
no_node = record { x = pos 0; y = pos 0; dx = pos 0; dy = pos 0; child_0 = 0; child_1 = 0 }

abbrev pub no_sector : Ground
no_sector = record { floor = pos 0; ceiling = pos 0; light = pos 0; special = 0; tag = pos 0 }

-- ---- the record with a number

abbrev pub nth_thing : Lists → ℕ → Spot
nth_thing l i = slice_index_or l.things i no_thing

abbrev pub nth_line : Lists → ℕ → Line
nth_line l i = slice_index_or l.lines i no_line

abbrev pub nth_side : Lists → ℕ → Side
nth_side l i = slice_index_or l.sides i no_side

abbrev pub nth_vertex : Lists → ℕ → Vertex
nth_vertex l i = slice_index_or l.vertices i no_vertex

abbrev pub nth_seg : Lists → ℕ → Seg
nth_seg l i = slice_index_or l.segs i no_seg

abbrev pub nth_subsector : Lists → ℕ → Subsector
nth_subsector l i = slice_index_or l.subsectors i no_subsector

abbrev pub nth_node : Lists → ℕ → Node
nth_node l i = slice_index_or l.nodes i no_node

abbrev pub nth_sector : Lists → ℕ → Ground
nth_sector l i = slice_index_or l.sectors i no_sector

abbrev pub nth_cell : Lists → ℕ → ℕ
nth_cell l i = slice_index l.cells i

abbrev pub nth_word : Lists → ℕ → ℕ
nth_word l i = slice_index l.words i
