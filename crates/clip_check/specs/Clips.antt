-- The clip of a thing's height: a thing between a floor and a ceiling that have moved.
use Rattle.std.specs.Prelude.{ℕ, ℤ, Bool, int_lt, int_le, if◌then◌else◌}
use Rattle.std.specs.Ordering.{int_eq}
use Rattle.fixed_angle.specs.Tables.{Tables}
use Rattle.map_geometry.specs.Lists.{Lists}
use Rattle.map_geometry.specs.Sides.{less, plus}
use Rattle.cow_world.specs.declared.records.Thing.{Thing}
use Rattle.cow_world.specs.Flat.{Gridded, thing_at, set_thing}
use Rattle.cow_world.specs.Shapes.{shape_of}
use Rattle.cow_world.specs.Outcome.{Outcome, goes, and_then}
use Rattle.clip_check.specs.declared.trial.Checked.{Checked}
use Rattle.clip_check.specs.Checks.{check_of}

-- What stood on its floor stands on the new one. Anything else is pushed down where it would stick in the ceiling.
abbrev pub height_between : Thing → ℤ → ℤ → ℤ → ℤ
height_between thing height floor ceiling =
    if int_eq thing.z thing.floorz then floor
    else if int_lt ceiling (plus thing.z height) then less ceiling height
    else thing.z

-- the thing between this floor and this ceiling
abbrev pub clipped : Thing → ℤ → ℤ → ℤ → Thing
clipped thing height floor ceiling = record thing { z = height_between thing height floor ceiling; floorz = floor; ceilingz = ceiling }

-- it fits where they are at least its height apart
abbrev pub fits_between : ℤ → ℤ → ℤ → Bool
fits_between height floor ceiling = int_le height (less ceiling floor)

-- a thing takes the floor and the ceiling that its check found, also where it was not clear
abbrev pub clip_after : Tables → ℕ → Gridded × Checked → Gridded × Bool
clip_after tables thing checked = (
  set_thing checked.0 thing (clipped (thing_at checked.0 thing) (shape_of tables checked.0 thing).height checked.1.floor checked.1.ceiling),
  fits_between (shape_of tables checked.0 thing).height checked.1.floor checked.1.ceiling,
)

-- a thing is checked where it stands, and takes what was found; and whether it fits
unfoldable pub clip_of : Lists → Tables → Gridded → ℕ → Outcome (Gridded × Bool)
clip_of level tables world thing =
    and_then (check_of level tables world thing (thing_at world thing).x (thing_at world thing).y) (λ checked. goes (clip_after tables thing checked))
