-- A sector with a plane at another height names the mover that it named.
use Rattle.std.proofs.Common.{◌≡◌, ℕ, ℤ, ◌<◌, length, refl, subst, sym}
use Rattle.std.specs.Prelude.{Option, IfSome, Some}
use Rattle.cow_world.specs.declared.kinds.Plane.{Plane}
use Rattle.cow_world.specs.declared.kinds.Plane.TheVariants.{Floor, Ceiling}
use Rattle.cow_world.specs.declared.records.Sector.{Sector}
use Rattle.cow_world.specs.Thinkers.{moved_by}
use Rattle.cow_world.specs.Flat.{Gridded, parts, sector_at, thinker_at}
use Rattle.cow_world.specs.Fits.{FitsLevel, NamesMover}
use Rattle.map_geometry.specs.Lists.{Lists}
use Rattle.mover_run.specs.Planes.{with_height}

pub same_mover : (plane : Plane) (sector : Sector) (height : ℤ) → (with_height plane sector height).mover ≡ sector.mover
same_mover Floor sector height = refl
same_mover Ceiling sector height = refl

pub still_named : (level : Lists) (world : Gridded) (sector : ℕ) (to : Sector) → FitsLevel level world → sector < length (parts world).sectors → to.mover ≡ (sector_at world sector).mover → NamesMover world sector to
still_named level world sector to fits below same =
    let Names : Option ℕ → Type 0 = λ mover. IfSome mover (λ m. moved_by (thinker_at world m) ≡ Some sector) in
    subst Names (sym same) (fits.movers sector below)
