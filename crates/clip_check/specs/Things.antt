-- The things that a thing meets at a place.
use Rattle.std.specs.Prelude.{ℕ, ◌==◌, ℤ, pos, int_lt, unsigned_abs, Bool, false, not, ◌&&◌, ◌||◌, List, [], ◌∷◌, filter, fold, if◌then◌else◌}
use Rattle.std.specs.List.{list_any}
use Rattle.fixed_angle.specs.Tables.{Tables}
use Rattle.map_geometry.specs.declared.records.Area.{Area}
use Rattle.map_geometry.specs.Lists.{Lists}
use Rattle.map_geometry.specs.Sides.{less, plus}
use Rattle.map_geometry.specs.Blocks.{blocks_in, blocks_of, box_around, widened}
use Rattle.cow_world.specs.declared.shapes.Shape.{Shape}
use Rattle.cow_world.specs.Flat.{Gridded, thing_at}
use Rattle.cow_world.specs.Shapes.{is_special, is_solid, is_shootable, shape_of}
use Rattle.cow_world.specs.Places.{things_in}
use Rattle.clip_check.specs.declared.trial.Trial.{Trial}
use Rattle.clip_check.specs.Touches.{touch_of}

-- the square of a trial: as wide as the thing, around the place
abbrev pub box_of : Trial → Area
box_of trial = box_around trial.x trial.y trial.radius

-- a thing that is nothing of these is passed
abbrev pub is_body : Shape → Bool
is_body shape = is_special shape || is_solid shape || is_shootable shape

-- Two coordinates are less than a reach apart. Their difference wraps; how large it is doesn't.
abbrev pub is_near : ℤ → ℤ → ℤ → Bool
is_near from to reach = int_lt (pos (unsigned_abs (less from to))) reach

-- in both directions they are nearer than the sum of their radii
abbrev pub is_beside : Tables → Gridded → Trial → ℕ → Bool
is_beside tables world trial other =
    is_near (thing_at world other).x trial.x (plus (shape_of tables world other).radius trial.radius)
    && is_near (thing_at world other).y trial.y (plus (shape_of tables world other).radius trial.radius)

-- the thing on trial meets another one
abbrev pub is_met : Tables → Gridded → Trial → ℕ → Bool
is_met tables world trial other = not (other == trial.thing) && (is_body (shape_of tables world other) && is_beside tables world trial other)

-- the player touches what is special
abbrev pub is_touched : Tables → Gridded → Trial → ℕ → Bool
is_touched tables world trial other = trial.player && is_special (shape_of tables world other)

-- what is solid blocks, also where it was just taken
abbrev pub is_in_the_way : Tables → Gridded → ℕ → Bool
is_in_the_way tables world other = is_solid (shape_of tables world other)

-- what stands in a list up to the first that passes a test, that one with it
abbrev pub up_to_first : (ℕ → Bool) → List ℕ → List ℕ
up_to_first test [] = []
up_to_first test (x ∷ xs) = if test x then x ∷ [] else x ∷ up_to_first test xs

-- Of these things, those that are met, up to the first that blocks. The world once they were touched, and whether one
-- blocks.
abbrev pub meeting_of : (touch : Gridded → ℕ → Gridded) → (met touched blocks : ℕ → Bool) → Gridded → List ℕ → Gridded × Bool
meeting_of touch met touched blocks world near =
    (fold touch world (filter touched (up_to_first blocks (filter met near))), list_any blocks (filter met near))

-- What is met is told by the things as they stood before the first touch.
abbrev pub things_met : Lists → Tables → Gridded → Trial → List ℕ → Gridded × Bool
things_met level tables world trial near =
    meeting_of (touch_of level) (is_met tables world trial) (is_touched tables world trial) (is_in_the_way tables world) world near

-- the things in the blocks that the trial's box touches once it is 32 units wider on each side
abbrev pub things_around : Lists → Gridded → Trial → List ℕ
things_around level world trial = things_in world (blocks_in (blocks_of level (widened (box_of trial))))

-- ---- one thing after the other

-- a thing that is touched, or not
abbrev pub touched_if : Bool → Lists → Gridded → ℕ → Gridded
touched_if touched level world other = if touched then touch_of level world other else world

-- one thing is met, or passed: the world then, and whether the thing blocks
abbrev pub met_one : Lists → Tables → Gridded → Trial → ℕ → Gridded × Bool
met_one level tables world trial other =
    if is_met tables world trial other then (touched_if (is_touched tables world trial other) level world other, is_in_the_way tables world other)
    else (world, false)
