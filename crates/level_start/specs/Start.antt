-- The start of a level, and why it may be refused.
use Rattle.std.specs.Prelude.{◌≡◌, ℕ, Bool, true, false, List, [], ◌∷◌, ◌++◌, length, map, fold, Option, Some, None, slice_get, slice_index}
use Rattle.std.specs.List.{range_with_len, list_any, filter_map}
use Rattle.fixed_angle.specs.Tables.{Tables}
use Rattle.map_geometry.specs.declared.records.Spot.{Spot}
use Rattle.map_geometry.specs.Lists.{Lists, nth_thing}
use Rattle.cow_world.specs.Flat.{Gridded, opening}
use Rattle.light_fx.specs.Begins.{spawn_lights_of}
use Rattle.level_start.specs.declared.fault.StartFault.{StartFault}
use Rattle.level_start.specs.declared.fault.StartFault.TheVariants.{NoStart, Voodoo, Memory}
use Rattle.level_start.specs.declared.entries.Entry.{Entry}
use Rattle.level_start.specs.declared.entries.Entry.TheVariants.{Skipped, Player, Spawned, Faulty}
use Rattle.level_start.specs.Entries.{entry_at}
use Rattle.level_start.specs.Spawns.{with_thing, with_player}
use Rattle.level_start.specs.Links.{linked_of}

-- the skill of a demo's header, 0 to 4
abbrev pub skill_of : List ℕ → ℕ
skill_of header = slice_index header 1

-- ---- faults

abbrev pub is_player : Entry → Bool
is_player Player = true
is_player _ = false

-- the player's start is among the first things of the map, so many
abbrev pub stands_before : Lists → Tables → ℕ → ℕ → Bool
stands_before level tables skill i = list_any is_player (map (entry_at level tables skill) (range_with_len 0 i))

-- what is wrong with a thing, where the player stands or doesn't yet
abbrev pub fault_by : Bool → Entry → Option StartFault
fault_by stood (Faulty fault) = Some fault
fault_by true Player = Some Voodoo
fault_by false Player = None
fault_by stood Skipped = None
fault_by stood (Spawned kind) = None

abbrev pub fault_at : Lists → Tables → ℕ → ℕ → Option StartFault
fault_at level tables skill i = fault_by (stands_before level tables skill i) (entry_at level tables skill i)

abbrev pub missing_start : Bool → List StartFault
missing_start true = []
missing_start false = NoStart ∷ []

-- all that is wrong with the things of the map, in their order, and after them that none is the player's start
abbrev pub faults_of : Lists → Tables → ℕ → List StartFault
faults_of level tables skill =
    filter_map (fault_at level tables skill) (range_with_len 0 (length level.things)) ++ missing_start (stands_before level tables skill (length level.things))

abbrev pub first_fault : Lists → Tables → ℕ → Option StartFault
first_fault level tables skill = slice_get (faults_of level tables skill) 0

-- the first of them, at the skill of the header
unfoldable pub start_fault : Lists → Tables → List ℕ → Option StartFault
start_fault level tables header = first_fault level tables (skill_of header)

-- This fault is the first. Want of memory is nobody's fault.
abbrev pub Blames : Option StartFault → StartFault → Type 0
Blames first Memory = Unit {0}
Blames first fault = first ≡ Some fault

-- ---- the start

abbrev pub spawned_by : Entry → Lists → ℕ → Spot → Gridded → Gridded
spawned_by Player level skill spot world = with_player level skill spot world
spawned_by (Spawned kind) level skill spot world = with_thing level spot kind world
spawned_by _ level skill spot world = world

-- thing i of the map
abbrev pub spawned_at : Lists → Tables → ℕ → Gridded → ℕ → Gridded
spawned_at level tables skill world i = spawned_by (entry_at level tables skill i) level skill (nth_thing level i) world

-- the things of the map, one after the other
abbrev pub spawned_of : Lists → Tables → ℕ → Gridded
spawned_of level tables skill = fold (spawned_at level tables skill) (opening level) (range_with_len 0 (length level.things))

-- then their links, and then the specials of the sectors
abbrev pub begun_of : Lists → Tables → ℕ → Gridded
begun_of level tables skill = spawn_lights_of level tables (linked_of tables (spawned_of level tables skill))

-- at the skill of the header
unfoldable pub start_of : Lists → Tables → List ℕ → Gridded
start_of level tables header = begun_of level tables (skill_of header)
