-- What has to hold of a map's lists, in the order in which it is judged, each with its fault.
use Rattle.std.specs.Prelude.{ℕ, ◌<◌, List, [], ◌∷◌, ◌++◌, length, Option, Some, None, IsSome, IfSome, All}
use Rattle.fixed_angle.specs.FirstFault.{Condition, for_each}
use Rattle.map_geometry.specs.declared.fault.LevelFault.{LevelFault}
use Rattle.map_geometry.specs.declared.fault.LevelFault.TheVariants.{LevelRef, NodeLoop, BlockShape}
use Rattle.map_geometry.specs.Lists.{Lists, nth_line, nth_seg, nth_subsector, nth_node, nth_cell}
use Rattle.map_geometry.specs.Derived.{sector_of_side, side_of}
use Rattle.map_geometry.specs.Blocks.{HasBlockShape, block_list}
use Rattle.map_geometry.specs.Nodes.{IsChildIn, WalksEnd}

-- the sector that a side faces is there; the fault names the side
abbrev pub faces_sector : Lists → ℕ → Condition LevelFault
faces_sector l side = record { holds = sector_of_side l.sides side < length l.sectors; fault = LevelRef 3 side }

-- the same of a back side, where there is one
abbrev pub back_faces_sector : Lists → Option ℕ → List (Condition LevelFault)
back_faces_sector l None = []
back_faces_sector l (Some side) = faces_sector l side ∷ []

-- Line i names vertices and sides that are there, in this order: first vertex, second vertex, front side, back
-- side. Then its sides face sectors that are there, the front side first.
abbrev pub line_conditions : Lists → ℕ → List (Condition LevelFault)
line_conditions l i =
    record { holds = (nth_line l i).v1 < length l.vertices; fault = LevelRef 2 i } ∷
    (record { holds = (nth_line l i).v2 < length l.vertices; fault = LevelRef 2 i } ∷
    (record { holds = (nth_line l i).front_side < length l.sides; fault = LevelRef 2 i } ∷
    (record { holds = IfSome (nth_line l i).back_side (λ side. side < length l.sides); fault = LevelRef 2 i } ∷
    (faces_sector l (nth_line l i).front_side ∷ back_faces_sector l (nth_line l i).back_side))))

-- there is a subsector
abbrev pub some_subsector : Lists → List (Condition LevelFault)
some_subsector l = record { holds = 0 < length l.subsectors; fault = LevelRef 6 0 } ∷ []

-- Subsector i has a seg, and its first seg is there. Then that seg's line is there, and so is the side of that
-- line on which the seg lies; the fault of these two names the seg.
abbrev pub subsector_conditions : Lists → ℕ → List (Condition LevelFault)
subsector_conditions l i =
    record { holds = 0 < (nth_subsector l i).count; fault = LevelRef 6 i } ∷
    (record { holds = (nth_subsector l i).first < length l.segs; fault = LevelRef 6 i } ∷
    (record { holds = (nth_seg l (nth_subsector l i).first).line < length l.lines; fault = LevelRef 5 (nth_subsector l i).first } ∷
    (record { holds = IsSome (side_of (nth_line l (nth_seg l (nth_subsector l i).first).line) (nth_seg l (nth_subsector l i).first).side); fault = LevelRef 5 (nth_subsector l i).first } ∷ [])))

-- both children of node i are there
abbrev pub node_conditions : Lists → ℕ → List (Condition LevelFault)
node_conditions l i =
    record { holds = IsChildIn (length l.nodes) (length l.subsectors) (nth_node l i).child_0; fault = LevelRef 7 i } ∷
    (record { holds = IsChildIn (length l.nodes) (length l.subsectors) (nth_node l i).child_1; fault = LevelRef 7 i } ∷ [])

-- no node that is reached from the last one stands below itself
abbrev pub no_loop : Lists → List (Condition LevelFault)
no_loop l = record { holds = WalksEnd l.nodes; fault = NodeLoop } ∷ []

-- the block map is whole
abbrev pub block_shape : Lists → List (Condition LevelFault)
block_shape l = record { holds = HasBlockShape l.words l.cells; fault = BlockShape } ∷ []

-- each entry of block i's list is the number of a line
abbrev pub cell_conditions : Lists → ℕ → List (Condition LevelFault)
cell_conditions l i = record { holds = All (λ entry. entry < length l.lines) (block_list l.words (nth_cell l i)); fault = LevelRef 10 i } ∷ []

-- those on lines, one line after the other
abbrev pub line_checks : Lists → List (Condition LevelFault)
line_checks l = for_each (length l.lines) (line_conditions l)

-- those on subsectors
abbrev pub subsector_checks : Lists → List (Condition LevelFault)
subsector_checks l = some_subsector l ++ for_each (length l.subsectors) (subsector_conditions l)

-- those on nodes
abbrev pub node_checks : Lists → List (Condition LevelFault)
node_checks l = for_each (length l.nodes) (node_conditions l) ++ no_loop l

-- those on the block map
abbrev pub block_checks : Lists → List (Condition LevelFault)
block_checks l = block_shape l ++ for_each (length l.cells) (cell_conditions l)

-- all of them, in order
abbrev pub conditions : Lists → List (Condition LevelFault)
conditions l = line_checks l ++ (subsector_checks l ++ (node_checks l ++ block_checks l))
