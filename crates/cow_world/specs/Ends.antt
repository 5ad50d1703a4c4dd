-- How a mover ends.
use Rattle.std.specs.Prelude.{ℕ, None}
use Rattle.cow_world.specs.declared.records.Sector.{Sector}
use Rattle.cow_world.specs.declared.records.Thinker.TheVariants.{Ended}
use Rattle.cow_world.specs.Flat.{Gridded, sector_at, set_sector, set_thinker}

-- the sector, naming no mover
abbrev pub at_rest : Sector → Sector
at_rest sector = record sector { mover = None }

-- a sector of the world names no mover any more
abbrev pub unnamed : Gridded → ℕ → Gridded
unnamed world sector = set_sector world sector (at_rest (sector_at world sector))

-- The mover at a place ends: the sector that it moved names no mover any more, whichever it named, and the place is
-- left as ended.
abbrev pub end_mover : Gridded → ℕ → ℕ → Gridded
end_mover world mover sector = set_thinker (set_sector world sector (at_rest (sector_at world sector))) mover Ended
