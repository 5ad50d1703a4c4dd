-- A floor or a ceiling that moves, and what a sector's change does to the things in and around it.
use Rattle.std.specs.Prelude.{ℕ, ℤ, int_lt, List, Bool, true, false, not, ◌&&◌, ◌||◌, if◌then◌else◌}
use Rattle.fixed_angle.specs.Tables.{Tables}
use Rattle.map_geometry.specs.Lists.{Lists}
use Rattle.map_geometry.specs.Sides.{less, plus}
use Rattle.map_geometry.specs.Blocks.{blocks_in}
use Rattle.map_geometry.specs.Sectors.{block_box_of}
use Rattle.cow_world.specs.declared.kinds.Plane.{Plane}
use Rattle.cow_world.specs.declared.kinds.Plane.TheVariants.{Floor, Ceiling}
use Rattle.cow_world.specs.declared.records.Sector.{Sector}
use Rattle.cow_world.specs.Flat.{Gridded, sector_at, set_sector}
use Rattle.cow_world.specs.Places.{things_in}
use Rattle.cow_world.specs.Shapes.{is_shootable, shape_of}
use Rattle.cow_world.specs.Outcome.{Outcome, goes, and_then, each_from}
use Rattle.clip_check.specs.Clips.{clip_of}
use Rattle.mover_run.specs.declared.planes.Moved.{Moved}
use Rattle.mover_run.specs.declared.planes.Moved.TheVariants.{Going, Blocked, Past}
use Rattle.mover_run.specs.declared.planes.Shift.{Shift}

-- ---- the change of a sector

-- something is stuck from now on where it was, or where a thing that can be hurt does not fit
abbrev pub stuck_after : Tables → ℕ → Bool → Gridded × Bool → Gridded × Bool
stuck_after tables thing before clipped = (clipped.0, before || (not clipped.1 && is_shootable (shape_of tables clipped.0 thing)))

-- one more thing is clipped
abbrev pub clipped_one : Lists → Tables → ℕ → Gridded × Bool → Outcome (Gridded × Bool)
clipped_one level tables thing so_far = and_then (clip_of level tables so_far.0 thing) (λ clipped. goes (stuck_after tables thing so_far.1 clipped))

-- the things in the blocks round a sector, as they stand now
abbrev pub things_round : Lists → Gridded → ℕ → List ℕ
things_round level world sector = things_in world (blocks_in (block_box_of level sector))

-- Each of them is clipped, also one that the player takes on the way; true where something is stuck.
unfoldable pub change_of : Lists → Tables → Gridded → ℕ → Outcome (Gridded × Bool)
change_of level tables world sector = each_from (clipped_one level tables) (world, false) (things_round level world sector)

-- ---- a plane

abbrev pub height_of : Plane → Sector → ℤ
height_of Floor sector = sector.floor
height_of Ceiling sector = sector.ceiling

abbrev pub with_height : Plane → Sector → ℤ → Sector
with_height Floor sector height = record sector { floor = height }
with_height Ceiling sector height = record sector { ceiling = height }

abbrev pub set_plane : Gridded → ℕ → Plane → ℤ → Gridded
set_plane world sector plane height = set_sector world sector (with_height plane (sector_at world sector) height)

-- the plane is put there, and its sector has changed
abbrev pub put_at : Lists → Tables → Gridded → ℕ → Plane → ℤ → Outcome (Gridded × Bool)
put_at level tables world sector plane height = change_of level tables (set_plane world sector plane height) sector

-- The next place of a plane; sums wrap.
abbrev pub next_place : Bool → ℤ → ℤ → ℤ
next_place true from speed = plus from speed
next_place false from speed = less from speed

-- the next place lies past the end of the way
abbrev pub is_past : Bool → ℤ → ℤ → Bool
is_past true next dest = int_lt dest next
is_past false next dest = int_lt next dest

-- a ceiling going up stays there, whatever is stuck
abbrev pub is_rising_ceiling : Plane → Bool → Bool
is_rising_ceiling Floor up = false
is_rising_ceiling Ceiling up = up

-- The table of cases. Past the end the plane comes to rest at the end, or goes back where something is stuck; the
-- answer is Past both times. Before the end it goes on, or goes back where something is stuck.
abbrev pub shift_to : Bool → ℕ → Plane → (from next dest : ℤ) → Bool → Shift
shift_to true sector plane from next dest up = record { sector = sector; plane = plane; from = from; to = dest; stays = false; moved = Past; stuck = Past }
shift_to false sector plane from next dest up = record { sector = sector; plane = plane; from = from; to = next; stays = is_rising_ceiling plane up; moved = Going; stuck = Blocked }

abbrev pub shift_of : ℕ → Plane → (from speed dest : ℤ) → Bool → Shift
shift_of sector plane from speed dest up = shift_to (is_past up (next_place up from speed) dest) sector plane from (next_place up from speed) dest up

-- back to where it was, and the sector changes again
abbrev pub gone_back : Lists → Tables → Shift → Gridded → Outcome (Gridded × Moved)
gone_back level tables shift world = and_then (put_at level tables world shift.sector shift.plane shift.from) (λ changed. goes (changed.0, shift.stuck))

abbrev pub shifted_after : Lists → Tables → Shift → Gridded × Bool → Outcome (Gridded × Moved)
shifted_after level tables shift changed = if changed.1 && not shift.stays then gone_back level tables shift changed.0 else goes (changed.0, shift.moved)

abbrev pub shifted : Lists → Tables → Shift → Gridded → Outcome (Gridded × Moved)
shifted level tables shift world = and_then (put_at level tables world shift.sector shift.plane shift.to) (shifted_after level tables shift)

-- a plane moves by a speed towards an end
unfoldable pub plane_of : Lists → Tables → Gridded → ℕ → Plane → ℤ → ℤ → Bool → Outcome (Gridded × Moved)
plane_of level tables world sector plane speed dest up = shifted level tables (shift_of sector plane (height_of plane (sector_at world sector)) speed dest up) world
