-- What a line does with the light of the sectors that have its tag, which it takes in order.
use Rattle.std.specs.Prelude.{ℕ, ℤ, pos, List, fold, Option, Some, None, if◌then◌else◌}
use Rattle.std.specs.Ordering.{int_eq}
use Rattle.fixed_angle.specs.Tables.{Tables}
use Rattle.map_geometry.specs.Lists.{Lists, nth_line}
use Rattle.map_geometry.specs.Sectors.{sectors_with_tag}
use Rattle.cow_world.specs.declared.kinds.LightKind.{LightKind}
use Rattle.cow_world.specs.declared.kinds.LightKind.TheVariants.{ToGreatest, To255, To35, SlowStrobe, ToLeast}
use Rattle.cow_world.specs.Flat.{Gridded, sector_at}
use Rattle.cow_world.specs.Around.{greatest_light, least_light}
use Rattle.light_fx.specs.Lights.{lit}
use Rattle.light_fx.specs.Begins.{plain, strobe_begun}

-- the greatest light that was found so far; around this sector, where none above 0 was found yet
abbrev pub greatest_so_far : Lists → Gridded → ℤ → ℕ → ℤ
greatest_so_far level world greatest sector = if int_eq greatest (pos 0) then greatest_light level world sector else greatest

-- the sector gets that light, which is kept for the sectors after it
abbrev pub turned_to_greatest : Lists → Gridded × ℤ → ℕ → Gridded × ℤ
turned_to_greatest level so_far sector = (lit so_far.0 sector (greatest_so_far level so_far.0 so_far.1 sector), greatest_so_far level so_far.0 so_far.1 sector)

-- a slow strobe begins in a sector that nothing moves, and the sector's special goes
abbrev pub strobe_unless : Option ℕ → Lists → Tables → Gridded → ℕ → Gridded
strobe_unless None level tables world sector = plain sector (strobe_begun level tables (pos 35) sector world)
strobe_unless (Some mover) level tables world sector = world

abbrev pub strobed : Lists → Tables → Gridded → ℕ → Gridded
strobed level tables world sector = strobe_unless (sector_at world sector).mover level tables world sector

-- ---- sector by sector

abbrev pub lit_greatest : Lists → List ℕ → Gridded × ℤ → Gridded × ℤ
lit_greatest level sectors so_far = fold (turned_to_greatest level) so_far sectors

abbrev pub lit_alike : ℤ → List ℕ → Gridded → Gridded
lit_alike light sectors world = fold (λ so_far sector. lit so_far sector light) world sectors

abbrev pub lit_least : Lists → List ℕ → Gridded → Gridded
lit_least level sectors world = fold (λ so_far sector. lit so_far sector (least_light level so_far sector)) world sectors

abbrev pub strobed_all : Lists → Tables → List ℕ → Gridded → Gridded
strobed_all level tables sectors world = fold (strobed level tables) world sectors

-- by the kind, over these sectors
abbrev pub lights_of : LightKind → Lists → Tables → List ℕ → Gridded → Gridded
lights_of ToGreatest level tables sectors world = (lit_greatest level sectors (world, pos 0)).0
lights_of To255 level tables sectors world = lit_alike (pos 255) sectors world
lights_of To35 level tables sectors world = lit_alike (pos 35) sectors world
lights_of SlowStrobe level tables sectors world = strobed_all level tables sectors world
lights_of ToLeast level tables sectors world = lit_least level sectors world

-- by the kind, over the sectors with the line's tag
unfoldable pub line_light_of : Lists → Tables → ℕ → LightKind → Gridded → Gridded
line_light_of level tables line kind world = lights_of kind level tables (sectors_with_tag level (nth_line level line).tag) world
