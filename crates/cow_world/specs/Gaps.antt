-- The gap that a line leaves between the sectors on its sides.
use Rattle.std.specs.Prelude.{ℕ, pos, ◌-ℤ◌, Option, Some, None}
use Rattle.std.specs.Int.{int_min, int_max}
use Rattle.fixed_angle.specs.Fixed.{wrap32}
use Rattle.map_geometry.specs.Lists.{Lists, nth_line}
use Rattle.cow_world.specs.declared.records.Sector.{Sector}
use Rattle.cow_world.specs.declared.gaps.Gap.{Gap}
use Rattle.cow_world.specs.Flat.{Gridded, sector_at}

-- between the higher floor and the lower ceiling of two sectors, over the lower floor; its range wraps in 32 bits
abbrev pub gap_between : Sector → Sector → Gap
gap_between front back = record {
  range = wrap32 (int_min front.ceiling back.ceiling -ℤ int_max front.floor back.floor);
  top = int_min front.ceiling back.ceiling;
  bottom = int_max front.floor back.floor;
  low = int_min front.floor back.floor;
}

-- a line that has nothing behind it leaves no gap
abbrev pub gap_behind : Gridded → ℕ → Option ℕ → Gap
gap_behind world front None = record { range = pos 0; top = pos 0; bottom = pos 0; low = pos 0 }
gap_behind world front (Some back) = gap_between (sector_at world front) (sector_at world back)

-- the gap of a line
abbrev pub gap_of : Lists → Gridded → ℕ → Gap
gap_of level world line = gap_behind world (nth_line level line).front (nth_line level line).back
