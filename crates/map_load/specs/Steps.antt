-- What one step of reading a level tells the next. No public contract cites these.
use Rattle.std.specs.Prelude.{◌≡◌, ◌↔◌, ℕ, ◌<◌, Bool, true, false, IsTrue, List, length, slice_index_or, All}
use Rattle.map_geometry.specs.declared.records.Node.{Node}
use Rattle.fixed_angle.specs.FirstFault.{Condition, for_each}
use Rattle.map_geometry.specs.declared.fault.LevelFault.{LevelFault}
use Rattle.map_geometry.specs.Lists.{Lists, no_node}
use Rattle.map_geometry.specs.Derived.{IsLineOf, IsSubsectorOf, IsGridOf}
use Rattle.map_geometry.specs.Blocks.{block_list}
use Rattle.map_geometry.specs.Conditions.{node_conditions, cell_conditions}

-- the node with a number
abbrev pub node_of : List Node → ℕ → Node
node_of nodes at = slice_index_or nodes at no_node

-- a child that is a node is there
abbrev pub IsThere : List Node → ℕ → Type 0
IsThere nodes child = child < 32768 → child < length nodes

abbrev pub HaveChildren : List Node → Type 0
HaveChildren nodes = (at : ℕ) → at < length nodes → IsThere nodes (node_of nodes at).child_0 × IsThere nodes (node_of nodes at).child_1

-- a child that is a node is settled
abbrev pub IsSettled : List Bool → ℕ → Type 0
IsSettled settled child = child < 32768 → slice_index_or settled child false ≡ true

-- what has to hold of the nodes' children
abbrev pub child_conditions : Lists → List (Condition LevelFault)
child_conditions l = for_each (length l.nodes) (node_conditions l)

-- for each place of a block map's words, whether the list that begins there has numbers of lines as its entries
pub record TellsSound (words : List ℕ) (lines : ℕ) (sound : List Bool) : Type 0 where
  pub len : length sound ≡ length words
  pub each : (k : ℕ) → k < length words → IsTrue (slice_index_or sound k false) ↔ All (λ entry. entry < lines) (block_list words k)

-- what has to hold of the blocks' lists
abbrev pub every_cell : Lists → List (Condition LevelFault)
every_cell l = for_each (length l.cells) (cell_conditions l)

-- each field that follows from other records is what follows
pub record IsDerived (l : Lists) : Type 0 where
  pub lines : All (IsLineOf l.vertices l.sides) l.lines
  pub subsectors : All (IsSubsectorOf l.lines l.sides l.segs) l.subsectors
  pub grid : IsGridOf l.words l
