-- What the player uses: the first line with a special in reach.
use Rattle.std.specs.Prelude.{ℕ, ◌==◌, ℤ, pos, ◌*ℤ◌, Bool, not, ◌||◌, int_le, List, Option, Some, None, find, if◌then◌else◌}
use Rattle.fixed_angle.specs.Fixed.{wrap32}
use Rattle.fixed_angle.specs.Tables.{Tables, sine_of, cosine_of}
use Rattle.map_geometry.specs.declared.records.DivLine.{DivLine}
use Rattle.map_geometry.specs.Lists.{Lists, nth_line}
use Rattle.map_geometry.specs.Sides.{side_of_line}
use Rattle.cow_world.specs.Flat.{Gridded, player_thing, line_special_at}
use Rattle.cow_world.specs.Gaps.{gap_of}
use Rattle.cow_world.specs.Outcome.{Outcome, goes, and_then}
use Rattle.slide_geom.specs.Traced.{trace_along}
use Rattle.line_specials.specs.Acts.{use_line_of}
use Rattle.player_move.specs.Player.{player_of}

-- 64 units by a sine or cosine; the product wraps in 32 bits
abbrev pub reach_of : ℤ → ℤ
reach_of part = wrap32 (part *ℤ pos 64)

-- the way of 64 units on which the player looks
abbrev pub sight_of : Tables → Gridded → DivLine
sight_of tables world = record {
  x = (player_thing world).x;
  y = (player_thing world).y;
  dx = reach_of (cosine_of tables (player_of world).angle);
  dy = reach_of (sine_of tables (player_of world).angle);
}

-- a line ends a use that has a special, or through which nothing is open
abbrev pub ends_use : Lists → Gridded → ℕ → Bool
ends_use level world line = not (line_special_at world line == 0) || int_le (gap_of level world line).range (pos 0)

-- of lines in the order in which they are met, the first that ends a use
abbrev pub first_end : Lists → Gridded → List (ℤ × ℕ) → Option (ℤ × ℕ)
first_end level world met = find (λ pair. ends_use level world pair.1) met

-- the line that ends a use is used, from the player's side, where it has a special
abbrev pub used_at : Lists → Tables → Gridded → Option (ℤ × ℕ) → Outcome Gridded
used_at level tables world None = goes world
used_at level tables world (Some end) =
    if line_special_at world end.1 == 0 then goes world
    else use_line_of level tables world end.1 (side_of_line (nth_line level end.1) (player_thing world).x (player_thing world).y)

-- The player uses what it looks at.
unfoldable pub use_of : Lists → Tables → Gridded → Outcome Gridded
use_of level tables world = and_then (trace_along level (sight_of tables world)) (λ met. used_at level tables world (first_end level world met))
