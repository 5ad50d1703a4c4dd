-- The door that a kind makes. Heights are in fixed point, counts in tics.
use Rattle.std.specs.Prelude.{ℕ, ℤ, pos, Bool, Some}
use Rattle.map_geometry.specs.Lists.{Lists, nth_line}
use Rattle.map_geometry.specs.Sides.{less}
use Rattle.cow_world.specs.declared.kinds.DoorKind.{DoorKind}
use Rattle.cow_world.specs.declared.kinds.DoorKind.TheVariants.{Normal, BlazeRaise, Open, BlazeOpen, Close, BlazeClose, Close30, Raise5}
use Rattle.cow_world.specs.declared.records.DoorPhase.TheVariants.{First, Up, Down}
use Rattle.cow_world.specs.declared.records.Thinker.{Thinker}
use Rattle.cow_world.specs.declared.records.Thinker.TheVariants.{Door}
use Rattle.cow_world.specs.Flat.{Gridded, sector_at}
use Rattle.cow_world.specs.Around.{lowest_ceiling}
use Rattle.cow_world.specs.Outcome.{Outcome, goes}
use Rattle.mover_start.specs.Begun.{begun, started_all}

-- 4 units below the lowest ceiling around
abbrev pub door_top : Lists → Gridded → ℕ → ℤ
door_top level world sector = less (lowest_ceiling level world sector) (pos 262144)

-- One row a kind: where it begins, and how far it opens. A door that closes for 30 seconds opens to where it was.
abbrev pub door_of : DoorKind → Lists → Gridded → ℕ → Thinker
door_of Normal level world sector = Door sector Normal Up (Some (door_top level world sector)) (pos 0)
door_of BlazeRaise level world sector = Door sector BlazeRaise Up (Some (door_top level world sector)) (pos 0)
door_of Open level world sector = Door sector Open Up (Some (door_top level world sector)) (pos 0)
door_of BlazeOpen level world sector = Door sector BlazeOpen Up (Some (door_top level world sector)) (pos 0)
door_of Close level world sector = Door sector Close Down (Some (door_top level world sector)) (pos 0)
door_of BlazeClose level world sector = Door sector BlazeClose Down (Some (door_top level world sector)) (pos 0)
door_of Close30 level world sector = Door sector Close30 Down (Some (sector_at world sector).ceiling) (pos 0)
door_of Raise5 level world sector = Door sector Raise5 First (Some (door_top level world sector)) (pos 10500)

abbrev pub door_begun : DoorKind → Lists → ℕ → Gridded → Gridded
door_begun kind level sector world = begun sector (door_of kind level world sector) world

abbrev pub door_started : DoorKind → Lists → ℕ → Gridded → Outcome Gridded
door_started kind level sector world = goes (door_begun kind level sector world)

-- doors in the sectors with the line's tag
unfoldable pub do_door_of : Lists → Gridded → ℕ → DoorKind → Outcome (Gridded × Bool)
do_door_of level world line kind = started_all (door_started kind level) level (nth_line level line).tag world
