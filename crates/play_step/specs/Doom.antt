-- The game on a level.
use Rattle.std.specs.Prelude.{◌≡◌, ℕ, List, None}
use Rattle.fixed_angle.specs.Tables.{Tables}
use Rattle.map_geometry.specs.Lists.{Lists}
use Rattle.cow_world.specs.Flat.{Flat, live, halted, Gridded, clear_acted}
use Rattle.cow_world.specs.Fits.{Fits}
use Rattle.level_start.specs.Start.{start_of, start_fault}

-- what a game is played on, with and from
pub record Setup : Type 0 where
  pub level : Lists
  pub tables : Tables
  pub header : List ℕ

-- it can be started
pub record CanStart (setup : Setup) : Type 0 where
  pub start : start_fault setup.level setup.tables setup.header ≡ None

-- the world before the first tic, in which no line has acted
unfoldable pub opening_of : Setup → Gridded
opening_of setup = clear_acted (start_of setup.level setup.tables setup.header)

-- a world that can be played on: it fits, unless it is halted
abbrev pub PlaysOnBy : Flat → Setup → Gridded → Type 0
PlaysOnBy (live lists) setup world = Fits setup.level setup.tables world
PlaysOnBy (halted tic reason) setup world = Unit {0}

abbrev pub PlaysOn : Setup → Gridded → Type 0
PlaysOn setup world = PlaysOnBy world.flat setup world
