-- How a mover begins, and in which sectors.
use Rattle.std.specs.Prelude.{ℕ, ℤ, Bool, true, false, length, Option, Some, None}
use Rattle.map_geometry.specs.Lists.{Lists}
use Rattle.map_geometry.specs.Sectors.{sectors_with_tag}
use Rattle.cow_world.specs.declared.records.Thinker.{Thinker}
use Rattle.cow_world.specs.Flat.{Gridded, parts, sector_at, set_sector, push_thinker}
use Rattle.cow_world.specs.Outcome.{Outcome, goes, and_then, each_from}

-- the mover stands behind the other thinkers, and its sector names it
abbrev pub begun : ℕ → Thinker → Gridded → Gridded
begun sector mover world =
    set_sector (push_thinker world mover) sector (record (sector_at world sector) { mover = Some (length (parts world).thinkers) })

-- In a sector that nothing moves the start is made, and something has started. One that names a mover is passed.
abbrev pub started_unless : Option ℕ → (ℕ → Gridded → Outcome Gridded) → ℕ → Gridded × Bool → Outcome (Gridded × Bool)
started_unless None start sector so_far = and_then (start sector so_far.0) (λ next. goes (next, true))
started_unless (Some mover) start sector so_far = goes so_far

abbrev pub started_in : (ℕ → Gridded → Outcome Gridded) → ℕ → Gridded × Bool → Outcome (Gridded × Bool)
started_in start sector so_far = started_unless (sector_at so_far.0 sector).mover start sector so_far

-- a start in each sector with a tag, in order; true where one was made
abbrev pub started_all : (ℕ → Gridded → Outcome Gridded) → Lists → ℤ → Gridded → Outcome (Gridded × Bool)
started_all start level tag world = each_from (started_in start) (world, false) (sectors_with_tag level tag)
