-- One tic of the game.
use Rattle.std.specs.Prelude.{ℕ, ◌==◌, if◌then◌else◌}
use Rattle.doom_edge.specs.Counts.{raised}
use Rattle.lmp_codec.specs.declared.input.Tic.{Tic}
use Rattle.fixed_angle.specs.Tables.{Tables}
use Rattle.map_geometry.specs.Lists.{Lists}
use Rattle.game_trait.specs.declared.shown.Halt.TheVariants.{Attack, Button}
use Rattle.cow_world.specs.Flat.{Flat, live, halted, Gridded, parts, clear_acted, set_time, set_tics, halted_on}
use Rattle.cow_world.specs.Shapes.{has_bit}
use Rattle.cow_world.specs.Outcome.{Outcome, goes, halts, and_then}
use Rattle.player_move.specs.Thinks.{think_of}
use Rattle.player_move.specs.Moves.{xy_of}
use Rattle.player_move.specs.Falls.{z_of}
use Rattle.mover_run.specs.Runs.{run_thinkers_of}

-- the buttons that halt: the special button, and then the attack
abbrev pub pressed : Tic → Gridded → Outcome Gridded
pressed tic world =
    if has_bit tic.buttons 128 then halts Button
    else if has_bit tic.buttons 1 then halts Attack
    else goes world

-- the number of a world's next tic, counted from 1
abbrev pub next_tic : Gridded → ℕ
next_tic world = raised (parts world).tics 1

-- the level time and the number of tics grow by one
abbrev pub timed : Gridded → Gridded
timed world = set_tics (set_time world (raised (parts world).time 1)) (next_tic world)

-- The parts of a tic, in their order: the buttons that halt; turn and thrust, the sector's special, and use; the move
-- over the map, and the fall; the thinkers; the time. The first halt ends it.
abbrev pub played : Lists → Tables → Tic → Gridded → Outcome Gridded
played level tables tic world =
    and_then (pressed tic world)
    (λ ready. and_then (think_of level tables ready tic)
    (λ thought. and_then (xy_of level tables thought tic)
    (λ moved. and_then (z_of level tables moved)
    (λ fallen. and_then (run_thinkers_of level tables fallen)
    (λ run. goes (timed run))))))

-- the world that a tic with this number comes to
abbrev pub ended : Lists → ℕ → Outcome Gridded → Gridded
ended level tic (goes world) = world
ended level tic (halts reason) = halted_on level tic reason

-- No line has acted yet. Once the level is left, tics are only counted.
abbrev pub live_step : Lists → Tables → Gridded → Tic → Gridded
live_step level tables world tic =
    if (parts world).exited == 0 then ended level (next_tic world) (played level tables tic (clear_acted world))
    else set_tics (clear_acted world) (next_tic world)

-- a halted world stays as it is
abbrev pub step_by : Flat → Lists → Tables → Gridded → Tic → Gridded
step_by (live lists) level tables world tic = live_step level tables world tic
step_by (halted last reason) level tables world tic = world

-- the world after one more tic
unfoldable pub step_of : Lists → Tables → Gridded → Tic → Gridded
step_of level tables world tic = step_by world.flat level tables world tic
