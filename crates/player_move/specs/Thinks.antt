-- What the player does before it moves: it turns and is driven by its keys, feels the floor, and uses.
use Rattle.std.specs.Prelude.{ℕ, ◌-◌, ◌*◌, ℤ, pos, ◌*ℤ◌, Bool, true, not, ◌&&◌, nat_lt, int_le, if◌then◌else◌}
use Rattle.std.specs.Ordering.{int_eq}
use Rattle.lmp_codec.specs.declared.input.Tic.{Tic}
use Rattle.health_fx.specs.Body.{ticked}
use Rattle.fixed_angle.specs.Fixed.{mul}
use Rattle.fixed_angle.specs.Tables.{Tables, sine_of, cosine_of}
use Rattle.fixed_angle.specs.Angle.{quarter}
use Rattle.map_geometry.specs.Lists.{Lists}
use Rattle.map_geometry.specs.Sides.{plus}
use Rattle.cow_world.specs.declared.records.Player.{Player}
use Rattle.cow_world.specs.declared.records.Thing.{Thing}
use Rattle.cow_world.specs.Flat.{Gridded, player_thing, set_player}
use Rattle.cow_world.specs.Shapes.{has_bit}
use Rattle.cow_world.specs.Outcome.{Outcome, goes, and_then}
use Rattle.slide_geom.specs.Angles.{turned, turned_back}
use Rattle.player_move.specs.Player.{player_of, with_body, with_held}
use Rattle.player_move.specs.Uses.{use_of}
use Rattle.player_move.specs.Floors.{floor_of}

-- ---- turn and thrust

-- the player, turned by the tic's 65,536ths of a turn
abbrev pub looking : ℕ → Player → Player
looking turn player = record player { angle = turned player.angle (turn * 65536) }

-- an amount more of momentum in an angle
abbrev pub thrust : Tables → ℕ → ℤ → Player → Player
thrust tables angle amount player = record player { momx = plus player.momx (mul amount (cosine_of tables angle)); momy = plus player.momy (mul amount (sine_of tables angle)) }

-- a key drives the player by 2048 for each of its units
abbrev pub driven : Tables → ℕ → ℤ → Player → Player
driven tables angle key player = if int_eq key (pos 0) then player else thrust tables angle (key *ℤ pos 2048) player

-- on the floor it is driven ahead, and to the right, which is a quarter of a turn back
abbrev pub driven_both : Tables → Tic → Player → Player
driven_both tables tic player =
    driven tables (turned_back player.angle quarter) tic.side (driven tables player.angle tic.forward player)

-- who came out of a teleporter can't move for some tics
abbrev pub is_recovering : Player → Bool
is_recovering player = nat_lt 0 player.body.react

abbrev pub recovering : Player → Player
recovering player = record player { body = record player.body { react = player.body.react - 1 } }

-- on its floor, or below it
abbrev pub is_on_floor : Thing → Bool
is_on_floor thing = int_le thing.z thing.floorz

-- who came out of a teleporter waits; any other turns, and on its floor is driven
abbrev pub steered : Tables → Tic → Thing → Player → Player
steered tables tic thing player =
    if is_recovering player then recovering player
    else if is_on_floor thing then driven_both tables tic (looking tic.turn player)
    else looking tic.turn player

abbrev pub steer_of : Tables → Tic → Gridded → Gridded
steer_of tables tic world = set_player world (steered tables tic (player_thing world) (player_of world))

-- ---- the use button

abbrev pub presses_use : Tic → Bool
presses_use tic = has_bit tic.buttons 2

-- the player uses where the button is pressed and was not held in the tic before
abbrev pub press_of : Lists → Tables → Tic → Gridded → Outcome Gridded
press_of level tables tic world =
    if presses_use tic && not (player_of world).held then use_of level tables (with_held world true)
    else goes (with_held world (presses_use tic))

-- ---- the whole

-- a tic passes for the body
abbrev pub aged : Gridded → Gridded
aged world = with_body world (ticked (player_of world).body)

-- The player turns and is driven, feels the floor, and uses; then its suit and its invulnerability wear off.
unfoldable pub think_of : Lists → Tables → Gridded → Tic → Outcome Gridded
think_of level tables world tic =
    and_then (floor_of level tables (steer_of tables tic world))
    (λ stood. and_then (press_of level tables tic stood) (λ used. goes (aged used)))
