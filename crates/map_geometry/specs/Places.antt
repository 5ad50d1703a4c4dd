-- The subsector and the sector of a place, and places whose sector is known.
use Rattle.std.specs.Prelude.{ℕ, zero, suc, ◌≡◌, ◌-◌, ◌<◌, ◌==◌, ℤ, nat_lt, List, length, if◌then◌else◌, All}
use Rattle.map_geometry.specs.declared.records.Node.{Node}
use Rattle.map_geometry.specs.declared.known.Known.{Known}
use Rattle.map_geometry.specs.declared.level.LevelParts.{LevelParts}
use Rattle.map_geometry.specs.Lists.{Lists, nth_node, nth_subsector}
use Rattle.map_geometry.specs.Sides.{side_of_node}
use Rattle.map_geometry.specs.Level.{AreParts, lists_of}

-- the child of a node on whose side a place is
unfoldable pub child_of : Node → ℤ → ℤ → ℕ
child_of node x y = if side_of_node node x y == 0 then node.child_0 else node.child_1

-- The subsector to which the way down from a child leads: a child from 32768 on is a subsector, and another one a
-- node, from which the way goes on to that node's child for the place. So many nodes may be passed at most.
unfoldable pub subsector_below : Lists → ℤ → ℤ → ℕ → ℕ → ℕ
subsector_below l x y zero child = child - 32768
subsector_below l x y (suc more) child =
    if nat_lt child 32768 then subsector_below l x y more (child_of (nth_node l child) x y)
    else child - 32768

-- The subsector of a place: the way down begins at the last node. Without nodes it is the first one. No way down
-- passes more nodes than a level has.
unfoldable pub subsector_of : Lists → ℤ → ℤ → ℕ
subsector_of l x y =
    if length l.nodes == 0 then 0
    else subsector_below l x y (length l.nodes) (child_of (nth_node l (length l.nodes - 1)) x y)

-- the sector of a place: that of its subsector
unfoldable pub sector_of_place : Lists → ℤ → ℤ → ℕ
sector_of_place l x y = (nth_subsector l (subsector_of l x y)).sector

-- what is known of a place is its sector, which is there
pub record IsKnownIn (l : Lists) (known : Known) : Type 0 where
  pub place : known.sector ≡ sector_of_place l known.x known.y
  pub there : known.sector < length l.sectors

-- what a level keeps: its parts, and places with their sectors
pub record IsKept (own : LevelParts) (places : List Known) : Type 0 where
  pub parts : AreParts own
  pub known : All (IsKnownIn (lists_of own)) places
