-- What is known of every level.
use Rattle.std.specs.Prelude.{ℕ, ℤ, ◌<◌, length, None, IfSome, All}
use Rattle.fixed_angle.specs.FirstFault.{FirstFault}
use Rattle.map_geometry.specs.declared.records.Line.{Line}
use Rattle.map_geometry.specs.declared.records.Subsector.{Subsector}
use Rattle.map_geometry.specs.declared.records.Node.{Node}
use Rattle.map_geometry.specs.declared.level.LevelParts.{LevelParts}
use Rattle.map_geometry.specs.Lists.{Lists}
use Rattle.map_geometry.specs.Derived.{IsLineOf, IsSubsectorOf, IsGridOf}
use Rattle.map_geometry.specs.Blocks.{ReachesEnd, block_list, block_lines}
use Rattle.map_geometry.specs.Nodes.{IsChildIn}
use Rattle.map_geometry.specs.Conditions.{conditions}
use Rattle.map_geometry.specs.Sectors.{IsIndex}

-- the lists that the vectors of a level's parts hold
abbrev pub lists_of : LevelParts → Lists
lists_of parts = record {
  things = parts.things.items;
  lines = parts.lines.items;
  sides = parts.sides.items;
  vertices = parts.vertices.items;
  segs = parts.segs.items;
  subsectors = parts.subsectors.items;
  nodes = parts.nodes.items;
  sectors = parts.sectors.items;
  cells = parts.cells.items;
  words = parts.words.items;
  origin_x = parts.origin_x;
  origin_y = parts.origin_y;
  width = parts.width;
  height = parts.height;
  episode_form = parts.episode_form;
}

-- Lists are a level where none of the conditions is false, and each field that follows from other records is
-- what follows.
pub record IsLevel (l : Lists) : Type 0 where
  pub checked : FirstFault (conditions l) None
  pub lines : All (IsLineOf l.vertices l.sides) l.lines
  pub subsectors : All (IsSubsectorOf l.lines l.sides l.segs) l.subsectors
  pub grid : IsGridOf l.words l

-- A level's parts: the lists, and for each sector what follows from them.
pub record AreParts (parts : LevelParts) : Type 0 where
  pub level : IsLevel (lists_of parts)
  pub index : IsIndex (lists_of parts) parts.sector_lines.items parts.outlines.items

-- ---- what a reader's caller may rely on

-- what a line names is there
pub record IsLineIn (l : Lists) (line : Line) : Type 0 where
  pub v1 : line.v1 < length l.vertices
  pub v2 : line.v2 < length l.vertices
  pub front_side : line.front_side < length l.sides
  pub back_side : IfSome line.back_side (λ side. side < length l.sides)
  pub front : line.front < length l.sectors
  pub back : IfSome line.back (λ sector. sector < length l.sectors)
  pub derived : IsLineOf l.vertices l.sides line

-- what a subsector names is there
pub record IsSubsectorIn (l : Lists) (subsector : Subsector) : Type 0 where
  pub count : 0 < subsector.count
  pub first : subsector.first < length l.segs
  pub sector : subsector.sector < length l.sectors
  pub derived : IsSubsectorOf l.lines l.sides l.segs subsector

-- what a node names is there
pub record IsNodeIn (l : Lists) (node : Node) : Type 0 where
  pub child_0 : IsChildIn (length l.nodes) (length l.subsectors) node.child_0
  pub child_1 : IsChildIn (length l.nodes) (length l.subsectors) node.child_1

-- a block's list begins at this place and ends among the words, and its entries are numbers of lines
pub record IsCellIn (l : Lists) (offset : ℕ) : Type 0 where
  pub begins : offset < length l.words
  pub ends : ReachesEnd l.words offset
  pub entries : All (λ entry. entry < length l.lines) (block_list l.words offset)

-- the lines in each block are there
pub record HasLines (l : Lists) : Type 0 where
  pub each : (column row : ℤ) → All (λ line. line < length l.lines) (block_lines l column row)
