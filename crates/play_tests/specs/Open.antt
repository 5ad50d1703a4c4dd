-- Worlds that the tests read and write.
use Rattle.std.specs.Prelude.{◌≡◌, ◌<◌, length}
use Rattle.map_geometry.specs.Lists.{Lists}
use Rattle.cow_world.specs.Flat.{Gridded, IsLive, parts, grid_of}

-- a live world on the level's grid, with two sectors and a line
pub record IsOpen (level : Lists) (world : Gridded) : Type 0 where
  pub live : IsLive world
  pub grid : world.grid ≡ grid_of level
  pub sectors : 1 < length (parts world).sectors
  pub specials : 0 < length (parts world).specials
