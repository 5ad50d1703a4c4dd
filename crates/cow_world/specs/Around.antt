-- What lies around a sector: the heights and lights of its neighbours. A neighbour stands once for each line between.
use Rattle.std.specs.Prelude.{ℕ, ℤ, pos, negsuc, int_lt, List, [], ◌∷◌, map, filter, fold, take, Option, Some, None, unwrap_or, option_and_then, if◌then◌else◌}
use Rattle.std.specs.Option.{option_map_or}
use Rattle.std.specs.Int.{int_min, int_max}
use Rattle.map_geometry.specs.Lists.{Lists, nth_line}
use Rattle.map_geometry.specs.Sectors.{neighbours, neighbour_across}
use Rattle.cow_world.specs.declared.records.Sector.{Sector}
use Rattle.cow_world.specs.declared.around.Height.{Height}
use Rattle.cow_world.specs.declared.around.Height.TheVariants.{LowestCeiling, LowestFloor, HighestFloor}
use Rattle.cow_world.specs.declared.around.Glare.{Glare}
use Rattle.cow_world.specs.declared.around.Glare.TheVariants.{Least, Greatest}
use Rattle.cow_world.specs.Flat.{Gridded, sector_at}

-- the lowest ceiling of the neighbours; the greatest number of 32 bits where there are none
abbrev pub lowest_ceiling : Lists → Gridded → ℕ → ℤ
lowest_ceiling level world sector = fold (λ lowest other. int_min lowest (sector_at world other).ceiling) (pos 2147483647) (neighbours level sector)

-- the lowest floor of the sector and its neighbours
abbrev pub lowest_floor : Lists → Gridded → ℕ → ℤ
lowest_floor level world sector = fold (λ lowest other. int_min lowest (sector_at world other).floor) (sector_at world sector).floor (neighbours level sector)

-- the highest floor of the neighbours; at least that of -500 units
abbrev pub highest_floor : Lists → Gridded → ℕ → ℤ
highest_floor level world sector = fold (λ highest other. int_max highest (sector_at world other).floor) (negsuc 32767999) (neighbours level sector)

-- the least of some numbers
abbrev pub least_of : List ℤ → Option ℤ
least_of [] = None
least_of (x ∷ xs) = Some (fold int_min x xs)

-- the floors of the neighbours that are higher than the sector's
abbrev pub higher_floors : Lists → Gridded → ℕ → List ℤ
higher_floors level world sector = filter (λ floor. int_lt (sector_at world sector).floor floor) (map (λ other. (sector_at world other).floor) (neighbours level sector))

-- the least of the first 20 of these; the sector's own where there are none
abbrev pub next_floor : Lists → Gridded → ℕ → ℤ
next_floor level world sector = unwrap_or (least_of (take 20 (higher_floors level world sector))) (sector_at world sector).floor

-- the least light of the sector and its neighbours
abbrev pub least_light : Lists → Gridded → ℕ → ℤ
least_light level world sector = fold (λ least other. int_min least (sector_at world other).light) (sector_at world sector).light (neighbours level sector)

-- the greatest light of the neighbours; at least 0
abbrev pub greatest_light : Lists → Gridded → ℕ → ℤ
greatest_light level world sector = fold (λ greatest other. int_max greatest (sector_at world other).light) (pos 0) (neighbours level sector)

-- ---- what is sought among the neighbours, as one rule for heights and one for lights

abbrev pub with_height : Height → ℤ → Sector → ℤ
with_height LowestCeiling so_far sector = int_min so_far sector.ceiling
with_height LowestFloor so_far sector = int_min so_far sector.floor
with_height HighestFloor so_far sector = int_max so_far sector.floor

abbrev pub with_light : Glare → ℤ → Sector → ℤ
with_light Least so_far sector = int_min so_far sector.light
with_light Greatest so_far sector = int_max so_far sector.light

-- the same with what lies across one line more
abbrev pub height_across : Lists → Gridded → ℕ → Height → ℤ → ℕ → ℤ
height_across level world sector sought so_far line = option_map_or (λ other. with_height sought so_far (sector_at world other)) (neighbour_across sector (nth_line level line)) so_far

abbrev pub light_across : Lists → Gridded → ℕ → Glare → ℤ → ℕ → ℤ
light_across level world sector sought so_far line = option_map_or (λ other. with_light sought so_far (sector_at world other)) (neighbour_across sector (nth_line level line)) so_far

-- the lesser of a number and those before it
abbrev pub lesser : Option ℤ → ℤ → Option ℤ
lesser None number = Some number
lesser (Some least) number = Some (int_min least number)

-- the floor across a line from a sector, where it is higher than this
abbrev pub higher_than : ℤ → ℤ → Option ℤ
higher_than own floor = if int_lt own floor then Some floor else None

abbrev pub higher_across : Lists → Gridded → ℕ → ℤ → ℕ → Option ℤ
higher_across level world sector own line = option_and_then (λ other. higher_than own (sector_at world other).floor) (neighbour_across sector (nth_line level line))
