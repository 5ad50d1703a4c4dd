-- The thinkers of a world in a tic.
use Rattle.std.specs.Prelude.{ℕ, length}
use Rattle.std.specs.List.{range_with_len}
use Rattle.fixed_angle.specs.Tables.{Tables}
use Rattle.map_geometry.specs.Lists.{Lists}
use Rattle.cow_world.specs.declared.records.Thinker.{Thinker}
use Rattle.cow_world.specs.declared.records.Thinker.TheVariants.{Door, Lift, Floor, Light, Ended}
use Rattle.cow_world.specs.Flat.{Gridded, parts, thinker_at}
use Rattle.cow_world.specs.Outcome.{Outcome, goes, each_from}
use Rattle.light_fx.specs.Lights.{run_light_of}
use Rattle.mover_run.specs.Doors.{door_run}
use Rattle.mover_run.specs.Lifts.{lift_run}
use Rattle.mover_run.specs.Floors.{floor_run}

-- a thinker at a place, by what it is
abbrev pub run_by : Thinker → Lists → Tables → ℕ → Gridded → Outcome Gridded
run_by (Door sector kind phase top count) level tables i world =
    door_run phase level tables (record { place = i; sector = sector; kind = kind; phase = phase; top = top; count = count }) world
run_by (Lift sector kind phase stopped low high wait count) level tables i world =
    lift_run level tables (record { place = i; sector = sector; kind = kind; phase = phase; stopped = stopped; low = low; high = high; wait = wait; count = count }) world
run_by (Floor sector kind dest) level tables i world = floor_run level tables (record { place = i; sector = sector; kind = kind; dest = dest }) world
run_by (Light sector kind min max count dark up) level tables i world = goes (run_light_of tables i world)
run_by Ended level tables i world = goes world

abbrev pub run_thinker_of : Lists → Tables → ℕ → Gridded → Outcome Gridded
run_thinker_of level tables i world = run_by (thinker_at world i) level tables i world

-- all thinkers in the order of their making, those that were made earlier in the tic too
unfoldable pub run_thinkers_of : Lists → Tables → Gridded → Outcome Gridded
run_thinkers_of level tables world = each_from (run_thinker_of level tables) world (range_with_len 0 (length (parts world).thinkers))
