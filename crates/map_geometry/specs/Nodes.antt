-- Walks down the nodes.
use Rattle.std.specs.Prelude.{◌≡◌, ℕ, ◌-◌, ◌<◌, ◌≤◌, ◌⊎◌, List, [], ◌∷◌, length, slice_index_or}
use Rattle.map_geometry.specs.declared.records.Node.{Node}
use Rattle.map_geometry.specs.Lists.{no_node}

-- a child below 0x8000 is the number of a node; from there on it names a subsector, counted from 0x8000
pub record IsChildIn (nodes subsectors child : ℕ) : Type 0 where
  pub node : child < 32768 → child < nodes
  pub subsector : 32768 ≤ child → child - 32768 < subsectors

-- `child` is a node right below the node `at`
pub record IsBelow (nodes : List Node) (at child : ℕ) : Type 0 where
  pub within : at < length nodes
  pub node : child < 32768
  pub named : ((slice_index_or nodes at no_node).child_0 ≡ child) ⊎ ((slice_index_or nodes at no_node).child_1 ≡ child)

-- a way down from the node `at`: each node stands right below the one before it
abbrev pub IsWalk : List Node → ℕ → List ℕ → Type 0
IsWalk nodes at [] = Unit {0}
IsWalk nodes at (next ∷ steps) = IsBelow nodes at next × IsWalk nodes next steps

-- No way down from the last node passes more nodes than there are. So no node that the last one reaches stands
-- below itself.
pub record WalksEnd (nodes : List Node) : Type 0 where
  pub shorter : 0 < length nodes → (steps : List ℕ) → IsWalk nodes (length nodes - 1) steps → length steps < length nodes
