-- What lifts do in a tic. Counts are in tics; they fall by one, and act at 0. Speeds are in fixed point: 65536 is a
-- unit a tic.
use Rattle.std.specs.Prelude.{ℤ, pos, Bool, true, false, Option, Some, None, if◌then◌else◌}
use Rattle.std.specs.Ordering.{int_eq}
use Rattle.fixed_angle.specs.Tables.{Tables}
use Rattle.map_geometry.specs.Lists.{Lists}
use Rattle.map_geometry.specs.Sides.{less}
use Rattle.game_trait.specs.declared.shown.Halt.TheVariants.{Unset}
use Rattle.cow_world.specs.declared.kinds.Plane.TheVariants.{Floor}
use Rattle.cow_world.specs.declared.kinds.PlatKind.{PlatKind}
use Rattle.cow_world.specs.declared.kinds.PlatKind.TheVariants.{DownWaitUp, Blazing, Perpetual, RaiseBy24, RaiseBy32, RaiseToNext}
use Rattle.cow_world.specs.declared.records.LiftPhase.{LiftPhase}
use Rattle.cow_world.specs.declared.records.LiftPhase.TheVariants.{Up, Down, Wait}
use Rattle.cow_world.specs.declared.records.Thinker.TheVariants.{Lift}
use Rattle.cow_world.specs.Flat.{Gridded, sector_at, set_thinker}
use Rattle.cow_world.specs.Ends.{end_mover}
use Rattle.cow_world.specs.Outcome.{Outcome, goes, halts, and_then}
use Rattle.mover_run.specs.declared.planes.Moved.{Moved}
use Rattle.mover_run.specs.declared.planes.Moved.TheVariants.{Going, Blocked, Past}
use Rattle.mover_run.specs.declared.lifts.MovingLift.{MovingLift}
use Rattle.mover_run.specs.Planes.{plane_of}

-- ---- the table, by the kind of a lift

-- how fast it is
abbrev pub lift_speed : PlatKind → ℤ
lift_speed DownWaitUp = pos 262144
lift_speed Blazing = pos 524288
lift_speed Perpetual = pos 65536
lift_speed RaiseBy24 = pos 32768
lift_speed RaiseBy32 = pos 32768
lift_speed RaiseToNext = pos 32768

-- whether it goes on when it has come up
abbrev pub goes_on : PlatKind → Bool
goes_on DownWaitUp = false
goes_on Blazing = false
goes_on Perpetual = true
goes_on RaiseBy24 = false
goes_on RaiseBy32 = false
goes_on RaiseToNext = false

-- ---- the phases

-- the lift stands among the thinkers like this
abbrev pub put_lift : MovingLift → Gridded → Gridded
put_lift lift world = set_thinker world lift.place (Lift lift.sector lift.kind lift.phase lift.stopped lift.low lift.high lift.wait lift.count)

-- its wait begins, in a phase
abbrev pub waits_in : LiftPhase → MovingLift → Gridded → Gridded
waits_in phase lift world = put_lift (record lift { phase = phase; count = lift.wait }) world

-- at the upper end of its way
abbrev pub lift_ended : MovingLift → Gridded → Gridded
lift_ended lift world = if goes_on lift.kind then waits_in Wait lift world else end_mover world lift.place lift.sector

abbrev pub lift_raised : Moved → MovingLift → Gridded → Gridded
lift_raised Past lift world = lift_ended lift world
lift_raised Going lift world = world
lift_raised Blocked lift world = waits_in Down lift world

-- up to the upper end; where it is blocked it turns
abbrev pub lift_up : Lists → Tables → MovingLift → Gridded → Outcome Gridded
lift_up level tables lift world =
    and_then (plane_of level tables world lift.sector Floor (lift_speed lift.kind) lift.high true) (λ moved. goes (lift_raised moved.1 lift moved.0))

abbrev pub lift_lowered : Moved → MovingLift → Gridded → Gridded
lift_lowered Past lift world = waits_in Wait lift world
lift_lowered Going lift world = world
lift_lowered Blocked lift world = world

-- down to the lower end; one that was never set halts
abbrev pub lift_down_to : Option ℤ → Lists → Tables → MovingLift → Gridded → Outcome Gridded
lift_down_to None level tables lift world = halts Unset
lift_down_to (Some low) level tables lift world =
    and_then (plane_of level tables world lift.sector Floor (lift_speed lift.kind) low false) (λ moved. goes (lift_lowered moved.1 lift moved.0))

-- after a wait a lift that is down goes up, and another one down
abbrev pub way_from : ℤ → ℤ → LiftPhase
way_from low floor = if int_eq floor low then Up else Down

abbrev pub lift_counted : MovingLift → MovingLift
lift_counted lift = record lift { count = less lift.count (pos 1) }

-- its wait is over; a lower end that was never set halts
abbrev pub lift_over : Option ℤ → MovingLift → Gridded → Outcome Gridded
lift_over None lift world = halts Unset
lift_over (Some low) lift world = goes (put_lift (record (lift_counted lift) { phase = way_from low (sector_at world lift.sector).floor }) world)

abbrev pub lift_wait : MovingLift → Gridded → Outcome Gridded
lift_wait lift world =
    if int_eq (less lift.count (pos 1)) (pos 0) then lift_over lift.low lift world
    else goes (put_lift (lift_counted lift) world)

abbrev pub lift_phase : LiftPhase → Lists → Tables → MovingLift → Gridded → Outcome Gridded
lift_phase Up level tables lift world = lift_up level tables lift world
lift_phase Down level tables lift world = lift_down_to lift.low level tables lift world
lift_phase Wait level tables lift world = lift_wait lift world

-- a lift in a tic, by its phase; one that is stopped does nothing
abbrev pub lift_run : Lists → Tables → MovingLift → Gridded → Outcome Gridded
lift_run level tables lift world = if lift.stopped then goes world else lift_phase lift.phase level tables lift world
