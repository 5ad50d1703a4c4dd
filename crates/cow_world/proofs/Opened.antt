-- A world before anything was spawned.
use Rattle.std.proofs.Common.{◌≡◌, ℕ, ◌<◌, Some, List, map, IfSome, All, refl, arith}
use Rattle.std.proofs.lemmas.List.{length-map}
use Rattle.std.proofs.lemmas.List.Elements.{All-map, All-same}
use Rattle.map_geometry.specs.Lists.{Lists}
use Rattle.map_geometry.specs.declared.records.Ground.{Ground}
use Rattle.cow_world.specs.declared.records.Sector.{Sector}
use Rattle.cow_world.specs.Thinkers.{moved_by}
use Rattle.cow_world.specs.Flat.{no_sector, sector_from, special_from, thinker_at, opening}
use Rattle.fixed_angle.specs.Tables.{Tables}
use Rattle.cow_world.specs.Fits.{FitsLevel, FitsBut}

-- a level's sectors name no mover
pub no_movers : (sectors : List Sector) (spots : List Ground) (count : ℕ) → sectors ≡ map sector_from spots → All (λ (sector : Sector). IfSome sector.mover (λ mover. mover < count)) sectors
no_movers sectors spots count same =
    let Named : Sector → Type 0 = λ sector. IfSome sector.mover (λ mover. mover < count) in
    All-same Named sectors (map sector_from spots) same (All-map Named sector_from spots (λ k d below. tt))

-- and the world fits its level
pub fits_level-opening : (level : Lists) → FitsLevel level (opening level)
fits_level-opening level =
    let Moved : Sector → Type 0 = λ sector. (i : ℕ) → IfSome sector.mover (λ mover. moved_by (thinker_at (opening level) mover) ≡ Some i) in
    let none : All Moved (map sector_from level.sectors) = All-map Moved sector_from level.sectors (λ k d below i. tt) in
    record {
      live = tt;
      sectors = length-map level.sectors sector_from;
      specials = length-map level.lines special_from;
      movers = λ i below. none i no_sector below i;
      lifts = omega arith;
      grid = refl;
    }

pub fits-opening : (level : Lists) (tables : Tables) (place : ℕ) → FitsBut level tables place (opening level)
fits-opening level tables place = record { lists = fits_level-opening level; kinds = λ i below other. absurd (omega (arith, below)) }
