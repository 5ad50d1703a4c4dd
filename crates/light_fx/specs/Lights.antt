-- Lights: what each does in a tic. A level of light is a signed number of 16 bits; sums and differences of levels wrap
-- in them, but where it is said that they don't.
use Rattle.std.specs.Prelude.{◌≡◌, ℕ, ◌+◌, ◌*◌, ◌/◌, ◌%◌, ◌<◌, ℤ, pos, ◌+ℤ◌, ◌-ℤ◌, Bool, true, false, int_le, int_lt, fold, length, if◌then◌else◌}
use Rattle.std.specs.Int.{w16, int_wrap}
use Rattle.std.specs.List.{range_with_len}
use Rattle.std.specs.Ordering.{int_eq}
use Rattle.fixed_angle.specs.Tables.{Tables}
use Rattle.map_geometry.specs.Sides.{less}
use Rattle.cow_world.specs.declared.kinds.GlowKind.{GlowKind}
use Rattle.cow_world.specs.declared.kinds.GlowKind.TheVariants.{Flash, Strobe, Flicker, Glow}
use Rattle.cow_world.specs.declared.records.Thinker.{Thinker}
use Rattle.cow_world.specs.declared.records.Thinker.TheVariants.{Light}
use Rattle.cow_world.specs.Flat.{Gridded, parts, sector_at, thinker_at, set_sector, set_thinker}
use Rattle.cow_world.specs.Random.{draw, drawn}
use Rattle.light_fx.specs.declared.lamp.Lamp.{Lamp}

-- what is left of a whole number in 16 signed bits
abbrev pub wrap16 : ℤ → ℤ
wrap16 n = int_wrap w16 n

abbrev pub light_at : Gridded → ℕ → ℤ
light_at world sector = (sector_at world sector).light

-- the sector's light becomes this
abbrev pub lit : Gridded → ℕ → ℤ → Gridded
lit world sector light = set_sector world sector (record (sector_at world sector) { light = light })

-- the lamp among the thinkers, with this count
abbrev pub with_count : Gridded → Lamp → ℤ → Gridded
with_count world lamp count = set_thinker world lamp.place (Light lamp.sector lamp.kind lamp.min lamp.max count lamp.dark lamp.up)

-- the lamp among the thinkers, on its way up or down
abbrev pub with_way : Gridded → Lamp → Bool → Gridded
with_way world lamp up = set_thinker world lamp.place (Light lamp.sector lamp.kind lamp.min lamp.max lamp.count lamp.dark up)

-- 1 to 8 tics, by a random number
abbrev pub short_count : Tables → Gridded → ℤ
short_count tables world = pos (drawn tables world % 8 + 1)

-- 1 tic or 65, by a random number
abbrev pub long_count : Tables → Gridded → ℤ
long_count tables world = pos (drawn tables world / 64 % 2 * 64 + 1)

-- 0, 16, 32 or 48, by a random number
abbrev pub flicker_step : Tables → Gridded → ℤ
flicker_step tables world = pos (drawn tables world % 4 * 16)

-- ---- what a lamp does at the end of its count

-- A flash at its brightest goes dark for a short time. Else it goes bright, mostly for a long one.
abbrev pub flash_turned : Tables → Lamp → Gridded → Gridded
flash_turned tables lamp world =
    if int_eq (light_at world lamp.sector) lamp.max
    then with_count (draw (lit world lamp.sector lamp.min)) lamp (short_count tables world)
    else with_count (draw (lit world lamp.sector lamp.max)) lamp (long_count tables world)

-- A strobe at its darkest goes bright for 5 tics. Else it goes dark, for as long as it stays so.
abbrev pub strobe_turned : Lamp → Gridded → Gridded
strobe_turned lamp world =
    if int_eq (light_at world lamp.sector) lamp.min
    then with_count (lit world lamp.sector lamp.max) lamp (pos 5)
    else with_count (lit world lamp.sector lamp.min) lamp lamp.dark

-- the brightest less a step; the darkest, where the step would take the light as it stands below that, without wrapping
abbrev pub flicker_light : (min max light step : ℤ) → ℤ
flicker_light min max light step = if int_lt (light -ℤ step) min then min else wrap16 (max -ℤ step)

-- a flicker changes by a random step, for 4 tics
abbrev pub flicker_turned : Tables → Lamp → Gridded → Gridded
flicker_turned tables lamp world =
    with_count (lit (draw world) lamp.sector (flicker_light lamp.min lamp.max (light_at world lamp.sector) (flicker_step tables world))) lamp (pos 4)

-- ---- what a lamp does in a tic

-- the count falls by one, and at 0 the lamp turns
abbrev pub counts_down : Lamp → (Gridded → Gridded) → Gridded → Gridded
counts_down lamp turned world =
    if int_eq (less lamp.count (pos 1)) (pos 0) then turned world else with_count world lamp (less lamp.count (pos 1))

-- the next light of a glow on its way
abbrev pub glow_light : Bool → ℤ → ℤ
glow_light true light = wrap16 (light +ℤ pos 8)
glow_light false light = wrap16 (light -ℤ pos 8)

-- this light is at the end of the way, or past it
abbrev pub is_glow_end : Bool → Lamp → ℤ → Bool
is_glow_end true lamp light = int_le lamp.max light
is_glow_end false lamp light = int_le light lamp.min

abbrev pub turned_round : Bool → Bool
turned_round true = false
turned_round false = true

-- A glow has no count. It goes on by 8; where that would come to the end of its way, its light stays and it turns.
abbrev pub glow_moved : Lamp → Gridded → Gridded
glow_moved lamp world =
    if is_glow_end lamp.up lamp (glow_light lamp.up (light_at world lamp.sector))
    then with_way world lamp (turned_round lamp.up)
    else lit world lamp.sector (glow_light lamp.up (light_at world lamp.sector))

abbrev pub lamp_moved : GlowKind → Tables → Lamp → Gridded → Gridded
lamp_moved Flash tables lamp world = counts_down lamp (flash_turned tables lamp) world
lamp_moved Strobe tables lamp world = counts_down lamp (strobe_turned lamp) world
lamp_moved Flicker tables lamp world = counts_down lamp (flicker_turned tables lamp) world
lamp_moved Glow tables lamp world = glow_moved lamp world

-- a light by its kind; other thinkers are no lights
abbrev pub light_moved : Tables → ℕ → Thinker → Gridded → Gridded
light_moved tables i (Light sector kind min max count dark up) world =
    lamp_moved kind tables (record { place = i; sector = sector; kind = kind; min = min; max = max; count = count; dark = dark; up = up }) world
light_moved tables i other world = world

-- thinker i in a tic, if it is a light
unfoldable pub run_light_of : Tables → ℕ → Gridded → Gridded
run_light_of tables i world = light_moved tables i (thinker_at world i) world

-- all lights in a tic, in the order of their making
unfoldable pub run_lights_of : Tables → Gridded → Gridded
run_lights_of tables world = fold (λ lit_so_far i. run_light_of tables i lit_so_far) world (range_with_len 0 (length (parts world).thinkers))

-- the lamp is what stands at its place among the thinkers, and its sector is there
pub record IsLamp (world : Gridded) (lamp : Lamp) : Type 0 where
  pub place : lamp.place < length (parts world).thinkers
  pub sector : lamp.sector < length (parts world).sectors
  pub light : thinker_at world lamp.place ≡ Light lamp.sector lamp.kind lamp.min lamp.max lamp.count lamp.dark lamp.up
