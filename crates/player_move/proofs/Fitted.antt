-- A world that fits still does after a part that keeps it fitting.
use Rattle.fixed_angle.specs.Tables.{Tables}
use Rattle.map_geometry.specs.Lists.{Lists}
use Rattle.cow_world.specs.Flat.{Gridded}
use Rattle.cow_world.specs.Fits.{Fits, KeepsFit}

pub still_fits : (level : Lists) (tables : Tables) (old new : Gridded) → KeepsFit old new → Fits level tables old → Fits level tables new
still_fits level tables old new kept fits = kept.whole level tables fits

pub still_fits_two : (level : Lists) (tables : Tables) (old mid new : Gridded) → KeepsFit old mid → KeepsFit mid new → Fits level tables old → Fits level tables new
still_fits_two level tables old mid new first second fits = second.whole level tables (first.whole level tables fits)
