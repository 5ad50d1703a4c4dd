-- How lights and the doors of sector specials begin, when a level starts.
use Rattle.std.specs.Prelude.{ℕ, ◌==◌, ℤ, pos, ◌+ℤ◌, false, fold, length, Some, None, if◌then◌else◌}
use Rattle.std.specs.List.{range_with_len}
use Rattle.std.specs.Ordering.{int_eq}
use Rattle.fixed_angle.specs.Tables.{Tables}
use Rattle.map_geometry.specs.Lists.{Lists}
use Rattle.map_geometry.specs.Sides.{less}
use Rattle.cow_world.specs.declared.kinds.DoorKind.TheVariants.{Normal, Raise5}
use Rattle.cow_world.specs.declared.kinds.GlowKind.TheVariants.{Flash, Strobe, Flicker, Glow}
use Rattle.cow_world.specs.declared.records.DoorPhase.TheVariants.{First, Wait}
use Rattle.cow_world.specs.declared.records.Thinker.{Thinker}
use Rattle.cow_world.specs.declared.records.Thinker.TheVariants.{Door, Light}
use Rattle.cow_world.specs.Flat.{Gridded, parts, sector_at, set_sector, push_thinker}
use Rattle.cow_world.specs.Random.{draw}
use Rattle.cow_world.specs.Around.{least_light, lowest_ceiling}
use Rattle.light_fx.specs.Lights.{wrap16, light_at, short_count, long_count}

-- the sector's special goes
abbrev pub plain : ℕ → Gridded → Gridded
plain sector world = set_sector world sector (record (sector_at world sector) { special = 0 })

-- the darkest of a strobe: 0 where it would be the same as the brightest
abbrev pub strobe_min : ℤ → ℤ → ℤ
strobe_min min max = if int_eq min max then pos 0 else min

-- ---- each kind, by the light of its sector and the least light around, that of the sector included

-- begins bright, for 1 tic or 65
abbrev pub flash_begun : Lists → Tables → ℕ → Gridded → Gridded
flash_begun level tables sector world =
    push_thinker (draw world) (Light sector Flash (least_light level world sector) (light_at world sector) (long_count tables world) (pos 0) false)

-- a strobe that stays dark for so long, and waits for so many tics first
abbrev pub strobe_of : Lists → ℕ → ℤ → ℤ → Gridded → Thinker
strobe_of level sector dark count world =
    Light sector Strobe (strobe_min (least_light level world sector) (light_at world sector)) (light_at world sector) count dark false

-- a strobe that begins after 1 to 8 tics
abbrev pub strobe_begun : Lists → Tables → ℤ → ℕ → Gridded → Gridded
strobe_begun level tables dark sector world = push_thinker (draw world) (strobe_of level sector dark (short_count tables world) world)

-- a strobe in step with all of its kind
abbrev pub strobe_in_step : Lists → ℤ → ℕ → Gridded → Gridded
strobe_in_step level dark sector world = push_thinker world (strobe_of level sector dark (pos 1) world)

-- begins by getting darker
abbrev pub glow_begun : Lists → ℕ → Gridded → Gridded
glow_begun level sector world = push_thinker world (Light sector Glow (least_light level world sector) (light_at world sector) (pos 0) (pos 0) false)

abbrev pub flicker_begun : Lists → ℕ → Gridded → Gridded
flicker_begun level sector world =
    push_thinker world (Light sector Flicker (wrap16 (least_light level world sector +ℤ pos 16)) (light_at world sector) (pos 4) (pos 0) false)

-- ---- doors

-- the sector names the thinker that was made last, which moves it
abbrev pub door_begun : ℕ → Thinker → Gridded → Gridded
door_begun sector door world =
    set_sector (push_thinker world door) sector (record (sector_at world sector) { mover = Some (length (parts world).thinkers) })

-- stands open for 30 seconds, and then closes; how far it would open was never set
abbrev pub closing_door : ℕ → Thinker
closing_door sector = Door sector Normal Wait None (pos 1050)

-- stays closed for five minutes, and then opens to 4 units below the lowest ceiling around
abbrev pub opening_door : Lists → ℕ → Gridded → Thinker
opening_door level sector world = Door sector Raise5 First (Some (less (lowest_ceiling level world sector) (pos 262144))) (pos 10500)

-- ---- by the special of a sector. Each but 4, which stays a damage floor, goes once it was carried out.

abbrev pub begun_by : ℕ → Lists → Tables → ℕ → Gridded → Gridded
begun_by special level tables sector world =
    if special == 1 then plain sector (flash_begun level tables sector world)
    else if special == 2 then plain sector (strobe_begun level tables (pos 15) sector world)
    else if special == 3 then plain sector (strobe_begun level tables (pos 35) sector world)
    else if special == 4 then strobe_begun level tables (pos 15) sector world
    else if special == 8 then plain sector (glow_begun level sector world)
    else if special == 10 then plain sector (door_begun sector (closing_door sector) world)
    else if special == 12 then plain sector (strobe_in_step level (pos 35) sector world)
    else if special == 13 then plain sector (strobe_in_step level (pos 15) sector world)
    else if special == 14 then plain sector (door_begun sector (opening_door level sector world) world)
    else if special == 17 then plain sector (flicker_begun level sector world)
    else world

abbrev pub begun_in : Lists → Tables → Gridded → ℕ → Gridded
begun_in level tables world sector = begun_by (sector_at world sector).special level tables sector world

-- the pass over all sectors, in their order
unfoldable pub spawn_lights_of : Lists → Tables → Gridded → Gridded
spawn_lights_of level tables world = fold (begun_in level tables) world (range_with_len 0 (length level.sectors))
