-- Worlds in which the tests cross and use lines.
use Rattle.std.specs.Prelude.{◌<◌, length}
use Rattle.fixed_angle.specs.Tables.{Tables}
use Rattle.map_geometry.specs.Lists.{Lists}
use Rattle.cow_world.specs.Flat.{Gridded}
use Rattle.cow_world.specs.Fits.{Fits}

-- a world that fits a level with two sectors and two lines
pub record IsReady (level : Lists) (tables : Tables) (world : Gridded) : Type 0 where
  pub fits : Fits level tables world
  pub sectors : 1 < length level.sectors
  pub lines : 1 < length level.lines
