-- How the player falls and rises. Heights are in fixed point, momenta too, a tic; sums and differences wrap in 32 bits.
use Rattle.std.specs.Prelude.{ℤ, pos, negsuc, Bool, ◌&&◌, int_lt, int_le, if◌then◌else◌}
use Rattle.std.specs.Int.{is_negative, is_positive}
use Rattle.std.specs.Ordering.{int_eq}
use Rattle.fixed_angle.specs.Tables.{Tables}
use Rattle.map_geometry.specs.Lists.{Lists}
use Rattle.map_geometry.specs.Sides.{less, plus}
use Rattle.cow_world.specs.declared.records.Player.{Player}
use Rattle.cow_world.specs.declared.records.Thing.{Thing}
use Rattle.cow_world.specs.Flat.{Gridded, player_thing, set_player}
use Rattle.cow_world.specs.Outcome.{Outcome, goes}
use Rattle.player_move.specs.declared.falls.Flight.{Flight}
use Rattle.player_move.specs.Player.{player_of, set_own_thing}

-- gravity: from rest at once 2 units a tic, and then one more each tic
abbrev pub pulled : ℤ → ℤ
pulled momz = if int_eq momz (pos 0) then negsuc 131071 else less momz (pos 65536)

-- who would come to the floor or below it stands on it; who is above it is pulled down
abbrev pub over_floor : ℤ → Flight → Flight
over_floor floor flight =
    if int_le flight.z floor then record { z = floor; momz = if is_negative flight.momz then pos 0 else flight.momz }
    else record { z = flight.z; momz = pulled flight.momz }

-- who would stick in the ceiling stands 56 units below it, and rises no more
abbrev pub under_ceiling : ℤ → Flight → Flight
under_ceiling ceiling flight =
    if int_lt ceiling (plus flight.z (pos 3670016)) then record { z = less ceiling (pos 3670016); momz = if is_positive flight.momz then pos 0 else flight.momz }
    else flight

-- higher by a momentum
abbrev pub lifted : Thing → ℤ → Flight
lifted thing momz = record { z = plus thing.z momz; momz = momz }

-- a tic of a fall or rise between a floor and a ceiling
abbrev pub flown : Thing → ℤ → Flight
flown thing momz = under_ceiling thing.ceilingz (over_floor thing.floorz (lifted thing momz))

abbrev pub with_z : Thing → ℤ → Thing
with_z thing z = record thing { z = z }

abbrev pub with_momz : Player → ℤ → Player
with_momz player momz = record player { momz = momz }

abbrev pub with_flight : Gridded → Flight → Gridded
with_flight world flight = set_player (set_own_thing world (with_z (player_thing world) flight.z)) (with_momz (player_of world) flight.momz)

-- on the floor, and not on the way up or down
abbrev pub is_at_rest : Thing → Player → Bool
is_at_rest thing player = int_eq thing.z thing.floorz && int_eq player.momz (pos 0)

-- The player falls or rises, unless it rests on its floor.
unfoldable pub z_of : Lists → Tables → Gridded → Outcome Gridded
z_of level tables world =
    if is_at_rest (player_thing world) (player_of world) then goes world
    else goes (with_flight world (flown (player_thing world) (player_of world).momz))
