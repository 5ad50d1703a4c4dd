-- Teleporters.
use Rattle.std.specs.Prelude.{ℕ, ◌==◌, ℤ, pos, int_lt, nat_lt, unsigned_abs, Bool, true, false, not, ◌&&◌, List, [], ◌∷◌, length, find, Option, Some, None, if◌then◌else◌}
use Rattle.std.specs.List.{list_any, range_with_len}
use Rattle.std.specs.Ordering.{int_eq}
use Rattle.fixed_angle.specs.Tables.{Tables}
use Rattle.map_geometry.specs.Lists.{Lists, nth_line, nth_sector}
use Rattle.map_geometry.specs.Sides.{less, plus}
use Rattle.map_geometry.specs.Blocks.{blocks_in, blocks_of, box_around, widened}
use Rattle.map_geometry.specs.Sectors.{sectors_with_tag}
use Rattle.map_geometry.specs.Places.{sector_of_place}
use Rattle.game_trait.specs.declared.shown.Halt.TheVariants.{Stomp}
use Rattle.cow_world.specs.declared.records.Sector.{Sector}
use Rattle.cow_world.specs.declared.records.Thing.{Thing}
use Rattle.cow_world.specs.declared.records.Player.{Player}
use Rattle.cow_world.specs.Flat.{Gridded, parts, sector_at, thing_at, set_thing, link, set_player}
use Rattle.cow_world.specs.Shapes.{shape_of, is_shootable}
use Rattle.cow_world.specs.Places.{things_in}
use Rattle.cow_world.specs.Random.{draw}
use Rattle.cow_world.specs.Outcome.{Outcome, goes, halts, and_then}

-- ---- where a teleporter leads

-- a thing that is there and to which teleporters lead
abbrev pub is_marker : Gridded → ℕ → Bool
is_marker world thing = (thing_at world thing).present && (thing_at world thing).kind == 14

-- the sector in which a thing's place lies
abbrev pub sector_under : Lists → Gridded → ℕ → ℕ
sector_under level world thing = sector_of_place level (thing_at world thing).x (thing_at world thing).y

-- the exits of a sector
abbrev pub is_exit : Lists → Gridded → ℕ → ℕ → Bool
is_exit level world sector thing = is_marker world thing && sector_under level world thing == sector

-- the first in a sector, of the things from number `from` on, so many
abbrev pub exit_among : Lists → Gridded → ℕ → ℕ → ℕ → Option ℕ
exit_among level world from many sector = find (is_exit level world sector) (range_with_len from many)

-- the first of some sectors that has one, and that one
abbrev pub with_sector : ℕ → Option ℕ → Option (ℕ × ℕ) → Option (ℕ × ℕ)
with_sector sector (Some thing) others = Some (sector, thing)
with_sector sector None others = others

abbrev pub first_exit : (ℕ → Option ℕ) → List ℕ → Option (ℕ × ℕ)
first_exit exit_in [] = None
first_exit exit_in (sector ∷ sectors) = with_sector sector (exit_in sector) (first_exit exit_in sectors)

-- of the sectors with a tag, in order
unfoldable pub exit_of : Lists → Gridded → ℤ → Option (ℕ × ℕ)
exit_of level world tag = first_exit (exit_among level world 0 (length (parts world).things)) (sectors_with_tag level tag)

-- the exit so far lies in an earlier sector
abbrev pub is_before : Option (ℕ × ℕ) → ℕ → Bool
is_before None sector = false
is_before (Some exit) sector = nat_lt exit.0 sector

-- Thing by thing, from the last to the first: an exit of a sector with the tag takes the place of the exit so far,
-- unless that lies in an earlier sector.
abbrev pub exit_with : Lists → Gridded → ℤ → Option (ℕ × ℕ) → ℕ → Option (ℕ × ℕ)
exit_with level world tag exit thing =
    if is_marker world thing && (int_eq (nth_sector level (sector_under level world thing)).tag tag && not (is_before exit (sector_under level world thing)))
    then Some (sector_under level world thing, thing)
    else exit

-- ---- what stands there

-- Two coordinates are less than a reach apart. Their difference wraps; how large it is doesn't.
abbrev pub is_near : ℤ → ℤ → ℤ → Bool
is_near from to reach = int_lt (pos (unsigned_abs (less from to))) reach

-- what can be hurt, other than the player, nearer than its radius and the player's together
abbrev pub is_in_the_way : Tables → Gridded → ℤ → ℤ → ℕ → Bool
is_in_the_way tables world x y thing =
    not (thing == (parts world).player.thing)
    && (is_shootable (shape_of tables world thing)
    && (is_near (thing_at world thing).x x (plus (shape_of tables world thing).radius (pos 1048576)) && is_near (thing_at world thing).y y (plus (shape_of tables world thing).radius (pos 1048576))))

-- the things in the blocks that the player's box at a place touches once it is 32 units wider on each side
abbrev pub things_at : Lists → Gridded → ℤ → ℤ → List ℕ
things_at level world x y = things_in world (blocks_in (blocks_of level (widened (box_around x y (pos 1048576)))))

unfoldable pub is_taken : Lists → Tables → Gridded → ℤ → ℤ → Bool
is_taken level tables world x y = list_any (is_in_the_way tables world x y) (things_at level world x y)

-- ---- the way there

-- on the floor of a sector
abbrev pub on_floor : Sector → Thing → Thing
on_floor sector thing = record thing { z = sector.floor; floorz = sector.floor; ceilingz = sector.ceiling }

-- without momentum, looking this way, and unable to move for 18 tics
abbrev pub stunned : ℕ → Player → Player
stunned angle player = record player { momx = pos 0; momy = pos 0; momz = pos 0; angle = angle; body = record player.body { react = 18 } }

abbrev pub put_on_floor : Gridded → ℕ → Gridded
put_on_floor world sector = set_thing world (parts world).player.thing (on_floor (sector_at world sector) (thing_at world (parts world).player.thing))

-- the player stands where the exit stands, linked anew, and two random numbers are drawn
abbrev pub moved_to : Gridded → Thing → Gridded
moved_to world exit = draw (draw (link world (parts world).player.thing exit.x exit.y))

abbrev pub arrived : Gridded → ℕ → Thing → Gridded
arrived world sector exit = set_player (moved_to (put_on_floor world sector) exit) (stunned exit.angle (parts world).player)

-- to an exit, unless that is taken
abbrev pub sent : Lists → Tables → Gridded → ℕ × ℕ → Outcome Gridded
sent level tables world exit =
    if is_taken level tables world (thing_at world exit.1).x (thing_at world exit.1).y then halts Stomp
    else goes (arrived world exit.0 (thing_at world exit.1))

-- if there is one; and whether there was
abbrev pub sent_to : Option (ℕ × ℕ) → Lists → Tables → Gridded → Outcome (Gridded × Bool)
sent_to None level tables world = goes (world, false)
sent_to (Some exit) level tables world = and_then (sent level tables world exit) (λ next. goes (next, true))

-- by a line from its front; from its back nothing happens
unfoldable pub teleport_of : Lists → Tables → Gridded → ℕ → ℕ → Outcome (Gridded × Bool)
teleport_of level tables world line side =
    if side == 0 then sent_to (exit_of level world (nth_line level line).tag) level tables world
    else goes (world, false)
