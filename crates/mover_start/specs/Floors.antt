-- The floor that a kind makes. Heights are in fixed point; sums wrap.
use Rattle.std.specs.Prelude.{ℕ, ℤ, pos, Bool, if◌then◌else◌}
use Rattle.std.specs.Int.{int_min}
use Rattle.std.specs.Ordering.{int_eq}
use Rattle.map_geometry.specs.Lists.{Lists, nth_line}
use Rattle.map_geometry.specs.Sides.{plus}
use Rattle.cow_world.specs.declared.kinds.FloorKind.{FloorKind}
use Rattle.cow_world.specs.declared.kinds.FloorKind.TheVariants.{ToHighest, ToLowest, TurboLower, ToCeiling, RaiseBy24, ToNext, TurboToNext}
use Rattle.cow_world.specs.declared.records.Thinker.{Thinker}
use Rattle.cow_world.specs.declared.records.Thinker.TheVariants.{Floor}
use Rattle.cow_world.specs.Flat.{Gridded, sector_at}
use Rattle.cow_world.specs.Around.{lowest_ceiling, lowest_floor, highest_floor, next_floor}
use Rattle.cow_world.specs.Outcome.{Outcome, goes}
use Rattle.mover_start.specs.Begun.{begun, started_all}

-- 8 units above the highest floor around, unless that is the sector's own height
abbrev pub above_highest : (highest own : ℤ) → ℤ
above_highest highest own = if int_eq highest own then highest else plus highest (pos 524288)

-- one row a kind: where the floor comes to rest
abbrev pub floor_dest : FloorKind → Lists → Gridded → ℕ → ℤ
floor_dest ToHighest level world sector = highest_floor level world sector
floor_dest ToLowest level world sector = lowest_floor level world sector
floor_dest TurboLower level world sector = above_highest (highest_floor level world sector) (sector_at world sector).floor
floor_dest ToCeiling level world sector = int_min (lowest_ceiling level world sector) (sector_at world sector).ceiling
floor_dest RaiseBy24 level world sector = plus (sector_at world sector).floor (pos 1572864)
floor_dest ToNext level world sector = next_floor level world sector
floor_dest TurboToNext level world sector = next_floor level world sector

abbrev pub floor_of : FloorKind → Lists → Gridded → ℕ → Thinker
floor_of kind level world sector = Floor sector kind (floor_dest kind level world sector)

abbrev pub floor_begun : FloorKind → Lists → ℕ → Gridded → Gridded
floor_begun kind level sector world = begun sector (floor_of kind level world sector) world

abbrev pub floor_started : FloorKind → Lists → ℕ → Gridded → Outcome Gridded
floor_started kind level sector world = goes (floor_begun kind level sector world)

-- floors in the sectors with the line's tag
unfoldable pub do_floor_of : Lists → Gridded → ℕ → FloorKind → Outcome (Gridded × Bool)
do_floor_of level world line kind = started_all (floor_started kind level) level (nth_line level line).tag world
