-- The check of a thing at a place.
use Rattle.std.specs.Prelude.{ℕ, ◌==◌, ℤ, Bool, true, false, [], if◌then◌else◌}
use Rattle.fixed_angle.specs.Tables.{Tables}
use Rattle.map_geometry.specs.Lists.{Lists}
use Rattle.map_geometry.specs.Blocks.{blocks_in, blocks_of}
use Rattle.block_walk.specs.Near.{near}
use Rattle.map_geometry.specs.Places.{sector_of_place}
use Rattle.cow_world.specs.declared.records.Sector.{Sector}
use Rattle.cow_world.specs.Flat.{Gridded, parts, sector_at}
use Rattle.cow_world.specs.Shapes.{shape_of}
use Rattle.cow_world.specs.Outcome.{Outcome, goes, and_then}
use Rattle.clip_check.specs.declared.trial.Trial.{Trial}
use Rattle.clip_check.specs.declared.trial.Checked.{Checked}
use Rattle.clip_check.specs.Things.{box_of, things_met, things_around}
use Rattle.clip_check.specs.Lines.{found_from, line_tests}

-- a thing, tried at a place
abbrev pub trial_of : Tables → Gridded → ℕ → ℤ → ℤ → Trial
trial_of tables world thing x y = record { thing = thing; player = thing == (parts world).player.thing; x = x; y = y; radius = (shape_of tables world thing).radius }

-- what is found in a sector before any line was looked at: its floor is the dropoff too
abbrev pub between : Bool → Sector → Checked
between clear sector = record { clear = clear; floor = sector.floor; ceiling = sector.ceiling; dropoff = sector.floor; listed = [] }

-- the sector of the place
abbrev pub ground_of : Lists → Gridded → Trial → Sector
ground_of level world trial = sector_at world (sector_of_place level trial.x trial.y)

-- what the lines leave of it
abbrev pub lines_found : Lists → Gridded → Trial → Outcome Checked
lines_found level world trial =
    found_from (line_tests level world trial.player (box_of trial)) (between true (ground_of level world trial)) (near level (blocks_in (blocks_of level (box_of trial))))

-- with a world beside it
abbrev pub beside : {A B : Type 0} → A → Outcome B → Outcome (A × B)
beside world outcome = and_then outcome (λ found. goes (world, found))

-- things first: where one blocks, no line is looked at
abbrev pub found_behind : Lists → Trial → Gridded × Bool → Outcome (Gridded × Checked)
found_behind level trial met =
    if met.1 then goes (met.0, between false (ground_of level met.0 trial)) else beside met.0 (lines_found level met.0 trial)

-- the check of a trial
abbrev pub tried_of : Lists → Tables → Gridded → Trial → Outcome (Gridded × Checked)
tried_of level tables world trial = found_behind level trial (things_met level tables world trial (things_around level world trial))

-- the check of a thing at a place
unfoldable pub check_of : Lists → Tables → Gridded → ℕ → ℤ → ℤ → Outcome (Gridded × Checked)
check_of level tables world thing x y = tried_of level tables world (trial_of tables world thing x y)
