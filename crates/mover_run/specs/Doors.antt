-- What doors do in a tic. Counts are in tics; they fall by one, and act at 0. Speeds are in fixed point: 65536 is a
-- unit a tic.
use Rattle.std.specs.Prelude.{ℤ, pos, true, false, Option, Some, None, if◌then◌else◌}
use Rattle.std.specs.Ordering.{int_eq}
use Rattle.fixed_angle.specs.Tables.{Tables}
use Rattle.map_geometry.specs.Lists.{Lists}
use Rattle.map_geometry.specs.Sides.{less}
use Rattle.game_trait.specs.declared.shown.Halt.TheVariants.{Unset}
use Rattle.cow_world.specs.declared.kinds.Plane.TheVariants.{Ceiling}
use Rattle.cow_world.specs.declared.kinds.DoorKind.{DoorKind}
use Rattle.cow_world.specs.declared.kinds.DoorKind.TheVariants.{Normal, BlazeRaise, Open, BlazeOpen, Close, BlazeClose, Close30, Raise5}
use Rattle.cow_world.specs.declared.records.DoorPhase.{DoorPhase}
use Rattle.cow_world.specs.declared.records.DoorPhase.TheVariants.{First, Up, Wait, Down}
use Rattle.cow_world.specs.declared.records.Thinker.TheVariants.{Door}
use Rattle.cow_world.specs.Flat.{Gridded, sector_at, set_thinker}
use Rattle.cow_world.specs.Ends.{end_mover}
use Rattle.cow_world.specs.Outcome.{Outcome, goes, halts, and_then}
use Rattle.mover_run.specs.declared.planes.Moved.{Moved}
use Rattle.mover_run.specs.declared.planes.Moved.TheVariants.{Going, Blocked, Past}
use Rattle.mover_run.specs.declared.doors.MovingDoor.{MovingDoor}
use Rattle.mover_run.specs.declared.doors.DoorEnd.{DoorEnd}
use Rattle.mover_run.specs.declared.doors.DoorEnd.TheVariants.{Stays, Waits, Ends}
use Rattle.mover_run.specs.Planes.{plane_of}

-- ---- the table, by the kind of a door

-- how fast it is
abbrev pub door_speed : DoorKind → ℤ
door_speed Normal = pos 131072
door_speed BlazeRaise = pos 524288
door_speed Open = pos 131072
door_speed BlazeOpen = pos 524288
door_speed Close = pos 131072
door_speed BlazeClose = pos 524288
door_speed Close30 = pos 131072
door_speed Raise5 = pos 131072

-- what it does at its top
abbrev pub at_top : DoorKind → DoorEnd
at_top Normal = Waits (pos 150)
at_top BlazeRaise = Waits (pos 150)
at_top Open = Ends
at_top BlazeOpen = Ends
at_top Close = Stays
at_top BlazeClose = Stays
at_top Close30 = Ends
at_top Raise5 = Stays

-- what it does at its bottom
abbrev pub at_bottom : DoorKind → DoorEnd
at_bottom Normal = Ends
at_bottom BlazeRaise = Ends
at_bottom Open = Stays
at_bottom BlazeOpen = Stays
at_bottom Close = Ends
at_bottom BlazeClose = Ends
at_bottom Close30 = Waits (pos 1050)
at_bottom Raise5 = Stays

-- where it goes after a wait
abbrev pub after_wait : DoorKind → DoorPhase
after_wait Normal = Down
after_wait BlazeRaise = Down
after_wait Open = Wait
after_wait BlazeOpen = Wait
after_wait Close = Wait
after_wait BlazeClose = Wait
after_wait Close30 = Up
after_wait Raise5 = Wait

-- where it goes when it is blocked on its way down
abbrev pub when_blocked : DoorKind → DoorPhase
when_blocked Normal = Up
when_blocked BlazeRaise = Up
when_blocked Open = Up
when_blocked BlazeOpen = Up
when_blocked Close = Down
when_blocked BlazeClose = Down
when_blocked Close30 = Up
when_blocked Raise5 = Up

-- ---- the phases

-- the door stands among the thinkers like this
abbrev pub put_door : MovingDoor → Gridded → Gridded
put_door door world = set_thinker world door.place (Door door.sector door.kind door.phase door.top door.count)

-- a door at an end of its way
abbrev pub door_ended : DoorEnd → MovingDoor → Gridded → Gridded
door_ended Stays door world = world
door_ended (Waits count) door world = put_door (record door { phase = Wait; count = count }) world
door_ended Ends door world = end_mover world door.place door.sector

-- the first wait is over: a door that waited for five minutes goes on as a normal one
abbrev pub first_over : MovingDoor → DoorKind → MovingDoor
first_over door Raise5 = record door { kind = Normal; phase = Up }
first_over door kind = door

abbrev pub counted : MovingDoor → MovingDoor
counted door = record door { count = less door.count (pos 1) }

abbrev pub door_first : MovingDoor → Gridded → Gridded
door_first door world =
    if int_eq (less door.count (pos 1)) (pos 0) then put_door (first_over (counted door) door.kind) world
    else put_door (counted door) world

abbrev pub door_wait : MovingDoor → Gridded → Gridded
door_wait door world =
    if int_eq (less door.count (pos 1)) (pos 0) then put_door (record (counted door) { phase = after_wait door.kind }) world
    else put_door (counted door) world

abbrev pub door_raised : Moved → MovingDoor → Gridded → Gridded
door_raised Past door world = door_ended (at_top door.kind) door world
door_raised Going door world = world
door_raised Blocked door world = world

-- up to the top; one that was never set halts
abbrev pub door_up_to : Option ℤ → Lists → Tables → MovingDoor → Gridded → Outcome Gridded
door_up_to None level tables door world = halts Unset
door_up_to (Some top) level tables door world =
    and_then (plane_of level tables world door.sector Ceiling (door_speed door.kind) top true) (λ moved. goes (door_raised moved.1 door moved.0))

abbrev pub door_lowered : Moved → MovingDoor → Gridded → Gridded
door_lowered Past door world = door_ended (at_bottom door.kind) door world
door_lowered Going door world = world
door_lowered Blocked door world = put_door (record door { phase = when_blocked door.kind }) world

-- down to the sector's floor
abbrev pub door_down : Lists → Tables → MovingDoor → Gridded → Outcome Gridded
door_down level tables door world =
    and_then (plane_of level tables world door.sector Ceiling (door_speed door.kind) (sector_at world door.sector).floor false) (λ moved. goes (door_lowered moved.1 door moved.0))

-- a door in a tic, by its phase
abbrev pub door_run : DoorPhase → Lists → Tables → MovingDoor → Gridded → Outcome Gridded
door_run First level tables door world = goes (door_first door world)
door_run Up level tables door world = door_up_to door.top level tables door world
door_run Wait level tables door world = goes (door_wait door world)
door_run Down level tables door world = door_down level tables door world
