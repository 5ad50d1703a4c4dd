-- Things as they are spawned.
use Rattle.std.specs.Prelude.{ℕ, ◌==◌, ℤ, pos, ◌*ℤ◌, true, int_lt, int_div, length, if◌then◌else◌}
use Rattle.std.specs.Int.{w32, cast_unsigned}
use Rattle.fixed_angle.specs.Fixed.{wrap32}
use Rattle.fixed_angle.specs.declared.kind.Kind.{Kind}
use Rattle.map_geometry.specs.declared.records.Spot.{Spot}
use Rattle.map_geometry.specs.declared.records.Ground.{Ground}
use Rattle.map_geometry.specs.Lists.{Lists, nth_sector}
use Rattle.map_geometry.specs.Sides.{less}
use Rattle.map_geometry.specs.Places.{sector_of_place}
use Rattle.health_fx.specs.Body.{fresh}
use Rattle.cow_world.specs.declared.records.Thing.{Thing}
use Rattle.cow_world.specs.declared.records.Player.{Player}
use Rattle.cow_world.specs.Flat.{Gridded, parts, push_thing, set_player}
use Rattle.cow_world.specs.Random.{draw}
use Rattle.cow_world.specs.Shapes.{has_bit}

-- the angle of so many degrees: the whole eighths of a turn, toward zero, in 32 bits
abbrev pub start_angle : ℤ → ℕ
start_angle degrees = cast_unsigned w32 (wrap32 (int_div degrees (pos 45) *ℤ pos 536870912))

-- the sector in which a thing of the map lies
abbrev pub ground_under : Lists → Spot → Ground
ground_under level spot = nth_sector level (sector_of_place level spot.x spot.y)

-- a thing on its floor
abbrev pub standing : Lists → Spot → Thing
standing level spot = record {
  kind = spot.number;
  x = spot.x;
  y = spot.y;
  z = (ground_under level spot).floor;
  floorz = (ground_under level spot).floor;
  ceilingz = (ground_under level spot).ceiling;
  angle = start_angle spot.angle;
  present = true;
}

-- one that is so high, below its ceiling
abbrev pub hanging : Lists → Spot → ℤ → Thing
hanging level spot height = record (standing level spot) { z = less (ground_under level spot).ceiling height }

abbrev pub thing_of : Lists → Spot → Kind → Thing
thing_of level spot kind = if has_bit kind.flags 8 then hanging level spot kind.height else standing level spot

-- one random number, and one more for a first state that ticks
abbrev pub drawn_for : Kind → Gridded → Gridded
drawn_for kind world = if int_lt (pos 0) kind.first then draw (draw world) else draw world

-- a thing of a kind more
abbrev pub with_thing : Lists → Spot → Kind → Gridded → Gridded
with_thing level spot kind world = push_thing (drawn_for kind world) (thing_of level spot kind)

-- At rest, without keys, and with a whole body, which is soft at the easiest skill. The use button counts as held.
abbrev pub player_of : ℕ → Spot → ℕ → Player
player_of skill spot place = record {
  thing = place;
  momx = pos 0;
  momy = pos 0;
  momz = pos 0;
  angle = start_angle spot.angle;
  keys = 0;
  held = true;
  body = fresh (skill == 0);
}

-- the player, for whom one random number is drawn, and who stands for the next thing
abbrev pub with_player : Lists → ℕ → Spot → Gridded → Gridded
with_player level skill spot world = set_player (push_thing (draw world) (standing level spot)) (player_of skill spot (length (parts world).things))
