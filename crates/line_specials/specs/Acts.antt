-- What lines do when they are crossed and when they are used.
use Rattle.std.specs.Prelude.{ℕ, ◌==◌, Bool, true, false, not, ◌&&◌, Option, Some, None, if◌then◌else◌}
use Rattle.fixed_angle.specs.Tables.{Tables}
use Rattle.map_geometry.specs.Lists.{Lists}
use Rattle.game_trait.specs.declared.shown.Halt.TheVariants.{Special}
use Rattle.cow_world.specs.declared.kinds.DoorKind.TheVariants.{BlazeOpen}
use Rattle.cow_world.specs.Flat.{Gridded, parts, line_special_at, add_acted, set_exited}
use Rattle.cow_world.specs.Shapes.{has_bit}
use Rattle.cow_world.specs.Outcome.{Outcome, goes, halts, and_then}
use Rattle.light_fx.specs.LineLights.{line_light_of}
use Rattle.mover_start.specs.Doors.{do_door_of}
use Rattle.mover_start.specs.Floors.{do_floor_of}
use Rattle.mover_start.specs.Lifts.{do_plat_of, stop_plat_of}
use Rattle.mover_start.specs.Manual.{done_if, manual_door_of}
use Rattle.line_specials.specs.declared.table.Key.{Key}
use Rattle.line_specials.specs.declared.table.Action.{Action}
use Rattle.line_specials.specs.declared.table.Action.TheVariants.{Door, LockedDoor, Floor, Lift, StopLift, Light, Exit, SecretExit, Teleport, ByHand}
use Rattle.line_specials.specs.declared.crosses.Crossed.{Crossed}
use Rattle.line_specials.specs.declared.crosses.Crossed.TheVariants.{Stays, Teleported}
use Rattle.line_specials.specs.Table.{Row, walk_row, use_row, crossed_halts, used_halts, is_among, key_bit}
use Rattle.line_specials.specs.Teleports.{teleport_of}

-- a door for those who have the key
abbrev pub locked_door_of : Lists → Gridded → ℕ → Key → Outcome (Gridded × Bool)
locked_door_of level world line key =
    if has_bit (parts world).player.keys (key_bit key) then do_door_of level world line BlazeOpen
    else goes (world, false)

-- an action, and whether it started something: lights and exits always do, a teleport where it has an exit
abbrev pub done_of : Action → Lists → Tables → Gridded → ℕ → ℕ → Outcome (Gridded × Bool)
done_of (Door kind) level tables world line side = do_door_of level world line kind
done_of (LockedDoor key) level tables world line side = locked_door_of level world line key
done_of (Floor kind) level tables world line side = do_floor_of level world line kind
done_of (Lift kind) level tables world line side = do_plat_of level tables world line kind
done_of StopLift level tables world line side = stop_plat_of level world line
done_of (Light kind) level tables world line side = goes (line_light_of level tables line kind world, true)
done_of Exit level tables world line side = goes (set_exited world 1, true)
done_of SecretExit level tables world line side = goes (set_exited world 2, true)
done_of Teleport level tables world line side = teleport_of level tables world line side
done_of ByHand level tables world line side = manual_door_of level world line

-- the line has acted, and loses its number unless it keeps it
abbrev pub acted_on : Bool → ℕ → Gridded → Gridded
acted_on keeps line world = add_acted (done_if (not keeps) line world) line

-- a number without a row: a halt where it is among these, else nothing
abbrev pub passed : Bool → ℕ → Gridded → Outcome Gridded
passed true special world = halts (Special special)
passed false special world = goes world

-- ---- crossed: the line acts, whatever its action did

abbrev pub is_teleport : Action → Bool
is_teleport Teleport = true
is_teleport action = false

abbrev pub crossed_by : Action → Bool → Crossed
crossed_by action started = if is_teleport action && started then Teleported else Stays

abbrev pub cross_row : Option Row → Lists → Tables → Gridded → ℕ → ℕ → Outcome (Gridded × Crossed)
cross_row None level tables world line side =
    and_then (passed (is_among crossed_halts (line_special_at world line)) (line_special_at world line) world) (λ next. goes (next, Stays))
cross_row (Some row) level tables world line side =
    and_then (done_of row.2 level tables world line side) (λ done. goes (acted_on row.3 line done.0, crossed_by row.2 done.1))

-- by the line's special as it is now, from a side
unfoldable pub cross_of : Lists → Tables → Gridded → ℕ → ℕ → Outcome (Gridded × Crossed)
cross_of level tables world line side = cross_row (walk_row (line_special_at world line)) level tables world line side

-- ---- used: the line acts where its action started something

abbrev pub acted_if : Bool → Bool → ℕ → Gridded → Gridded
acted_if true keeps line world = acted_on keeps line world
acted_if false keeps line world = world

abbrev pub used_row : Option Row → Lists → Tables → Gridded → ℕ → Outcome Gridded
used_row None level tables world line = passed (is_among used_halts (line_special_at world line)) (line_special_at world line) world
used_row (Some row) level tables world line = and_then (done_of row.2 level tables world line 0) (λ done. goes (acted_if done.1 row.3 line done.0))

-- from its front; from its back nothing happens
unfoldable pub use_line_of : Lists → Tables → Gridded → ℕ → ℕ → Outcome Gridded
use_line_of level tables world line side = if side == 0 then used_row (use_row (line_special_at world line)) level tables world line else goes world
