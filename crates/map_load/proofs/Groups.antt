-- The groups of conditions on a map's lists, one after the other.
use Rattle.std.proofs.Common.{◌≡◌, ◌⊎◌, ℕ, ◌<◌, ◌++◌, length, get_or, Option, Some, None, All, inl, inr, refl}
use Rattle.fixed_angle.specs.FirstFault.{FirstFault, for_each}
use Rattle.fixed_angle.proofs.Order.{first_after, first_within, none_each}
use Rattle.map_geometry.specs.declared.fault.LevelFault.{LevelFault}
use Rattle.map_geometry.specs.declared.fault.LevelFault.TheVariants.{NodeLoop, BlockShape}
use Rattle.map_geometry.specs.Lists.{Lists, nth_cell}
use Rattle.map_geometry.specs.Nodes.{WalksEnd}
use Rattle.map_geometry.specs.Blocks.{HasBlockShape}
use Rattle.map_geometry.specs.Conditions.{node_conditions, no_loop, node_checks, line_checks, subsector_checks, block_checks, conditions}
use Rattle.map_load.specs.Steps.{HaveChildren, child_conditions}

-- where no condition is false, the first holds, and none behind it is false
first_holds : {P Q : Type 0} {fault : LevelFault} → (P × Q) ⊎ ((P → ⊥) × (None ≡ Some fault)) → P × Q
first_holds (inl p) = p
first_holds (inr p) = absurd cc

pub children_hold : (l : Lists) → FirstFault (child_conditions l) None → HaveChildren l.nodes
children_hold l checked at below =
    let left = first_holds (none_each (node_conditions l) (length l.nodes) at below checked) in
    let right = first_holds left.1 in
    (left.0.node, right.0.node)

pub children_fault : (l : Lists) (fault : LevelFault) → FirstFault (child_conditions l) (Some fault) → FirstFault (node_checks l) (Some fault)
children_fault l fault p = first_within (child_conditions l) (no_loop l) fault p

pub loops : (l : Lists) → FirstFault (child_conditions l) None → (WalksEnd l.nodes → ⊥) → FirstFault (node_checks l) (Some NodeLoop)
loops l checked loop = first_after (child_conditions l) (no_loop l) (Some NodeLoop) checked (inr (loop, refl))

pub loops_not : (l : Lists) → FirstFault (child_conditions l) None → WalksEnd l.nodes → FirstFault (node_checks l) None
loops_not l checked ends = first_after (child_conditions l) (no_loop l) None checked (inl (ends, refl))

-- ---- all groups

after_lines : (l : Lists) (outcome : Option LevelFault) → FirstFault (line_checks l) None → FirstFault (subsector_checks l ++ (node_checks l ++ block_checks l)) outcome → FirstFault (conditions l) outcome
after_lines l outcome lines p = first_after (line_checks l) (subsector_checks l ++ (node_checks l ++ block_checks l)) outcome lines p

after_subsectors : (l : Lists) (outcome : Option LevelFault) → FirstFault (subsector_checks l) None → FirstFault (node_checks l ++ block_checks l) outcome → FirstFault (subsector_checks l ++ (node_checks l ++ block_checks l)) outcome
after_subsectors l outcome subsectors p = first_after (subsector_checks l) (node_checks l ++ block_checks l) outcome subsectors p

pub in_lines : (l : Lists) (fault : LevelFault) → FirstFault (line_checks l) (Some fault) → FirstFault (conditions l) (Some fault)
in_lines l fault p = first_within (line_checks l) (subsector_checks l ++ (node_checks l ++ block_checks l)) fault p

pub in_subsectors : (l : Lists) (fault : LevelFault) → FirstFault (line_checks l) None → FirstFault (subsector_checks l) (Some fault) → FirstFault (conditions l) (Some fault)
in_subsectors l fault lines p = after_lines l (Some fault) lines (first_within (subsector_checks l) (node_checks l ++ block_checks l) fault p)

pub in_nodes : (l : Lists) (fault : LevelFault) → FirstFault (line_checks l) None → FirstFault (subsector_checks l) None → FirstFault (node_checks l) (Some fault) → FirstFault (conditions l) (Some fault)
in_nodes l fault lines subsectors p = after_lines l (Some fault) lines (after_subsectors l (Some fault) subsectors (first_within (node_checks l) (block_checks l) fault p))

pub in_blocks : (l : Lists) (outcome : Option LevelFault) → FirstFault (line_checks l) None → FirstFault (subsector_checks l) None → FirstFault (node_checks l) None → FirstFault (block_checks l) outcome → FirstFault (conditions l) outcome
in_blocks l outcome lines subsectors nodes p = after_lines l outcome lines (after_subsectors l outcome subsectors (first_after (node_checks l) (block_checks l) outcome nodes p))
