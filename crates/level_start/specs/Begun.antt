-- What a start keeps to while things are spawned.
use Rattle.std.specs.Prelude.{◌≡◌, Bool, true, false, [], length}
use Rattle.fixed_angle.specs.Tables.{Tables}
use Rattle.map_geometry.specs.Lists.{Lists}
use Rattle.cow_world.specs.Flat.{Gridded, parts}
use Rattle.cow_world.specs.Fits.{Fits, FitsBut, FitsLevel}

-- the world fits once the player stands, and before but for the thing that comes next
abbrev pub FitsSoFar : Bool → Lists → Tables → Gridded → Type 0
FitsSoFar true level tables world = Fits level tables world
FitsSoFar false level tables world = FitsBut level tables (length (parts world).things) world

-- and nothing is linked yet
pub record IsBegun (stood : Bool) (level : Lists) (tables : Tables) (world : Gridded) : Type 0 where
  pub lists : FitsLevel level world
  pub fits : FitsSoFar stood level tables world
  pub unlinked : (parts world).links ≡ []
