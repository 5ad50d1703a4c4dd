-- Which lines stop a player who slides. Heights are in fixed point; 65536 is one map unit.
use Rattle.std.specs.Prelude.{ℕ, ◌==◌, ℤ, pos, Bool, ◌||◌, int_lt, if◌then◌else◌}
use Rattle.map_geometry.specs.declared.records.Line.{Line}
use Rattle.map_geometry.specs.Lists.{Lists, nth_line}
use Rattle.map_geometry.specs.Sectors.{has_flag}
use Rattle.map_geometry.specs.Sides.{less, side_of_line}
use Rattle.cow_world.specs.declared.records.Thing.{Thing}
use Rattle.cow_world.specs.declared.gaps.Gap.{Gap}
use Rattle.cow_world.specs.Flat.{Gridded}
use Rattle.cow_world.specs.Gaps.{gap_of}

-- A gap is too narrow for a player who stands at a height: it is lower than the player, who is 56 units high, or its
-- top is less than that above the player's feet, or its bottom is a step of more than 24 units.
abbrev pub is_narrow : ℤ → Gap → Bool
is_narrow z gap = int_lt gap.range (pos 3670016) || (int_lt (less gap.top z) (pos 3670016) || int_lt (pos 1572864) (less gap.bottom z))

-- the player stands in front of a line
abbrev pub is_in_front : Thing → Line → Bool
is_in_front player line = side_of_line line player.x player.y == 0

-- a line of two sides stops the player by its gap, and one of one side by its front
abbrev pub stops : Lists → Gridded → Thing → ℕ → Bool
stops level world player line =
    if has_flag (nth_line level line) 4 then is_narrow player.z (gap_of level world line)
    else is_in_front player (nth_line level line)
