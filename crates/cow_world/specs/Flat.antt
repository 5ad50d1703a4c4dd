-- The flat world: what a world means, in plain lists. Its readers and writers have the names of the calls that do the
-- same; a reader that calls a place that is not there is given an entry of zeros, on which nothing rests.
use Rattle.std.specs.Prelude.{◌==◌, ℕ, ◌+◌, ℤ, pos, Bool, false, not, List, [], ◌∷◌, ◌++◌, length, map, filter, Option, Some, None, slice_index, slice_index_or, slice_set}
use Rattle.std.specs.List.{list_any}
use Rattle.page_store.specs.Pages.{page_count}
use Rattle.map_geometry.specs.declared.records.Ground.{Ground}
use Rattle.map_geometry.specs.declared.records.Line.{Line}
use Rattle.map_geometry.specs.Lists.{Lists}
use Rattle.game_trait.specs.declared.shown.Halt.{Halt}
use Rattle.health_fx.specs.Body.{Body}
use Rattle.cow_world.specs.declared.records.Sector.{Sector}
use Rattle.cow_world.specs.declared.records.Thing.{Thing}
use Rattle.cow_world.specs.declared.records.Player.{Player}
use Rattle.cow_world.specs.declared.records.Thinker.{Thinker}
use Rattle.cow_world.specs.declared.records.Thinker.TheVariants.{Ended}
use Rattle.cow_world.specs.declared.grid.Grid.{Grid}

-- What a live world has. `specials` are those of the lines; `things` stand in the order of their spawning, `thinkers`
-- in that of their making; `links` are the places of the linked things, the last linked first; `acted` are the lines
-- that acted in the last step, the first first.
pub record Live : Type 0 where
  pub sectors : List Sector
  pub specials : List ℕ
  pub things : List Thing
  pub links : List ℕ
  pub thinkers : List Thinker
  pub acted : List ℕ
  pub player : Player
  pub rng : ℕ
  pub time : ℕ
  pub tics : ℕ
  pub exited : ℕ

-- a world is live, or halted in a tic, counted from 1, for a reason
pub data Flat : Type 0 where
  live : Live → Flat
  halted : ℕ → Halt → Flat

-- a flat world and the grid of blocks that it was opened on
pub record Gridded : Type 0 where
  pub flat : Flat
  pub grid : Grid

-- ---- live or halted

abbrev pub IsLiveFlat : Flat → Type 0
IsLiveFlat (live lists) = Unit {0}
IsLiveFlat (halted tic halt) = ⊥

abbrev pub IsLive : Gridded → Type 0
IsLive world = IsLiveFlat world.flat

abbrev pub halt_of_flat : Flat → Option (ℕ × Halt)
halt_of_flat (live lists) = None
halt_of_flat (halted tic halt) = Some (tic, halt)

-- the tic that halted, counted from 1, and why
abbrev pub halt_of : Gridded → Option (ℕ × Halt)
halt_of world = halt_of_flat world.flat

abbrev pub no_body : Body
no_body = record { health = pos 0; armour = pos 0; kind = 0; suit = 0; guard = 0; react = 0; soft = false }

abbrev pub no_player : Player
no_player = record { thing = 0; momx = pos 0; momy = pos 0; momz = pos 0; angle = 0; keys = 0; held = false; body = no_body }

-- what is left of a halted world
abbrev pub no_parts : Live
no_parts = record { sectors = []; specials = []; things = []; links = []; thinkers = []; acted = []; player = no_player; rng = 0; time = 0; tics = 0; exited = 0 }

abbrev pub parts_of : Flat → Live
parts_of (live lists) = lists
parts_of (halted tic halt) = no_parts

-- the lists and numbers of a world
abbrev pub parts : Gridded → Live
parts world = parts_of world.flat

-- the world, live, with other lists and numbers
abbrev pub with_parts : Gridded → Live → Gridded
with_parts world lists = record world { flat = live lists }

-- ---- readers

abbrev pub no_sector : Sector
no_sector = record { floor = pos 0; ceiling = pos 0; light = pos 0; special = 0; mover = None }

abbrev pub no_thing : Thing
no_thing = record { kind = 0; x = pos 0; y = pos 0; z = pos 0; floorz = pos 0; ceilingz = pos 0; angle = 0; present = false }

abbrev pub sector_at : Gridded → ℕ → Sector
sector_at world i = slice_index_or (parts world).sectors i no_sector

abbrev pub line_special_at : Gridded → ℕ → ℕ
line_special_at world i = slice_index (parts world).specials i

abbrev pub thing_at : Gridded → ℕ → Thing
thing_at world i = slice_index_or (parts world).things i no_thing

-- the player's thing, which has its x, y, z, floorz and ceilingz
abbrev pub player_thing : Gridded → Thing
player_thing world = thing_at world (parts world).player.thing

abbrev pub thinker_at : Gridded → ℕ → Thinker
thinker_at world i = slice_index_or (parts world).thinkers i Ended

-- whether a line acted in the last step
abbrev pub has_acted : Gridded → ℕ → Bool
has_acted world line = list_any (λ other. other == line) (parts world).acted

-- the pages of the world's stores together
abbrev pub page_sum : Gridded → ℕ
page_sum world = page_count (length (parts world).sectors) + page_count (length (parts world).specials) + page_count (length (parts world).things) + page_count (length (parts world).thinkers)

-- the items of the world's stores together
abbrev pub item_sum : Gridded → ℕ
item_sum world = length (parts world).sectors + length (parts world).specials + length (parts world).things + length (parts world).thinkers

-- ---- writers: each changes what it names and nothing else

abbrev pub set_sector : Gridded → ℕ → Sector → Gridded
set_sector world i to = with_parts world (record (parts world) { sectors = slice_set (parts world).sectors i to })

abbrev pub set_line_special : Gridded → ℕ → ℕ → Gridded
set_line_special world i to = with_parts world (record (parts world) { specials = slice_set (parts world).specials i to })

abbrev pub push_thing : Gridded → Thing → Gridded
push_thing world thing = with_parts world (record (parts world) { things = (parts world).things ++ thing ∷ [] })

abbrev pub set_thing : Gridded → ℕ → Thing → Gridded
set_thing world i to = with_parts world (record (parts world) { things = slice_set (parts world).things i to })

-- the thing first, and the others without it
abbrev pub first_in : ℕ → List ℕ → List ℕ
first_in thing links = thing ∷ filter (λ other. not (other == thing)) links

-- the thing's place becomes (x, y), and it stands first in the link order, once
abbrev pub link : Gridded → ℕ → ℤ → ℤ → Gridded
link world thing x y =
    with_parts world
    (record (parts world) {
      things = slice_set (parts world).things thing (record (thing_at world thing) { x = x; y = y });
      links = first_in thing (parts world).links;
    })

abbrev pub push_thinker : Gridded → Thinker → Gridded
push_thinker world thinker = with_parts world (record (parts world) { thinkers = (parts world).thinkers ++ thinker ∷ [] })

abbrev pub set_thinker : Gridded → ℕ → Thinker → Gridded
set_thinker world i to = with_parts world (record (parts world) { thinkers = slice_set (parts world).thinkers i to })

abbrev pub add_acted : Gridded → ℕ → Gridded
add_acted world line = with_parts world (record (parts world) { acted = (parts world).acted ++ line ∷ [] })

abbrev pub clear_acted : Gridded → Gridded
clear_acted world = with_parts world (record (parts world) { acted = [] })

abbrev pub set_player : Gridded → Player → Gridded
set_player world to = with_parts world (record (parts world) { player = to })

abbrev pub set_rng : Gridded → ℕ → Gridded
set_rng world to = with_parts world (record (parts world) { rng = to })

abbrev pub set_time : Gridded → ℕ → Gridded
set_time world to = with_parts world (record (parts world) { time = to })

abbrev pub set_tics : Gridded → ℕ → Gridded
set_tics world to = with_parts world (record (parts world) { tics = to })

abbrev pub set_exited : Gridded → ℕ → Gridded
set_exited world to = with_parts world (record (parts world) { exited = to })

-- a halt leaves nothing but itself and the grid
abbrev pub set_halted : Gridded → ℕ → Halt → Gridded
set_halted world tic halt = record world { flat = halted tic halt }

-- ---- the opening

abbrev pub sector_from : Ground → Sector
sector_from spot = record { floor = spot.floor; ceiling = spot.ceiling; light = spot.light; special = spot.special; mover = None }

abbrev pub special_from : Line → ℕ
special_from line = line.special

abbrev pub grid_of : Lists → Grid
grid_of level = record { origin_x = level.origin_x; origin_y = level.origin_y; width = level.width; height = level.height }

-- the world of a level before any thing was spawned
abbrev pub opening : Lists → Gridded
opening level = record {
  flat = live (record no_parts { sectors = map sector_from level.sectors; specials = map special_from level.lines });
  grid = grid_of level;
}

-- a halted world of a level
abbrev pub halted_on : Lists → ℕ → Halt → Gridded
halted_on level tic halt = record { flat = halted tic halt; grid = grid_of level }
