-- A mover among the thinkers.
use Rattle.std.specs.Prelude.{◌≡◌, ℕ, ◌<◌, length, Bool, Some}
use Rattle.map_geometry.specs.Lists.{Lists}
use Rattle.cow_world.specs.Flat.{Gridded, parts, thinker_at}
use Rattle.cow_world.specs.Thinkers.{moved_by, is_lift}

-- what stands at a place among the thinkers moves this sector, which is there, and is a lift or not
pub record IsMover (level : Lists) (world : Gridded) (place sector : ℕ) (lift : Bool) : Type 0 where
  pub there : place < length (parts world).thinkers
  pub in_level : sector < length level.sectors
  pub moves : moved_by (thinker_at world place) ≡ Some sector
  pub is : is_lift (thinker_at world place) ≡ lift
