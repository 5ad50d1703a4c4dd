-- What floors do in a tic. Speeds are in fixed point: 65536 is a unit a tic.
use Rattle.std.specs.Prelude.{ℤ, pos, Bool, true, false}
use Rattle.fixed_angle.specs.Tables.{Tables}
use Rattle.map_geometry.specs.Lists.{Lists}
use Rattle.cow_world.specs.declared.kinds.Plane.TheVariants.{Floor as FloorPlane}
use Rattle.cow_world.specs.declared.kinds.FloorKind.{FloorKind}
use Rattle.cow_world.specs.declared.kinds.FloorKind.TheVariants.{ToHighest, ToLowest, TurboLower, ToCeiling, RaiseBy24, ToNext, TurboToNext}
use Rattle.cow_world.specs.Flat.{Gridded}
use Rattle.cow_world.specs.Ends.{end_mover}
use Rattle.cow_world.specs.Outcome.{Outcome, goes, and_then}
use Rattle.mover_run.specs.declared.planes.Moved.{Moved}
use Rattle.mover_run.specs.declared.planes.Moved.TheVariants.{Going, Blocked, Past}
use Rattle.mover_run.specs.declared.floors.MovingFloor.{MovingFloor}
use Rattle.mover_run.specs.Planes.{plane_of}

-- ---- the table, by the kind of a floor: how fast it is, and whether it goes up

abbrev pub floor_speed : FloorKind → ℤ
floor_speed ToHighest = pos 65536
floor_speed ToLowest = pos 65536
floor_speed TurboLower = pos 262144
floor_speed ToCeiling = pos 65536
floor_speed RaiseBy24 = pos 65536
floor_speed ToNext = pos 65536
floor_speed TurboToNext = pos 262144

abbrev pub floor_rises : FloorKind → Bool
floor_rises ToHighest = false
floor_rises ToLowest = false
floor_rises TurboLower = false
floor_rises ToCeiling = true
floor_rises RaiseBy24 = true
floor_rises ToNext = true
floor_rises TurboToNext = true

-- past its end it ends; where it is blocked it does nothing
abbrev pub floor_moved : Moved → MovingFloor → Gridded → Gridded
floor_moved Past floor world = end_mover world floor.place floor.sector
floor_moved Going floor world = world
floor_moved Blocked floor world = world

-- a floor in a tic
abbrev pub floor_run : Lists → Tables → MovingFloor → Gridded → Outcome Gridded
floor_run level tables floor world =
    and_then (plane_of level tables world floor.sector FloorPlane (floor_speed floor.kind) floor.dest (floor_rises floor.kind)) (λ moved. goes (floor_moved moved.1 floor moved.0))
