-- How far a player who slides may go: up to the nearest line that stops one of three corners. 65536 is one unit.
-- Fractions are parts of the move, in fixed point; sums and differences wrap in 32 bits.
use Rattle.std.specs.Prelude.{ℕ, ℤ, pos, int_lt, List, Option, Some, None, find, if◌then◌else◌}
use Rattle.std.specs.Int.{is_positive}
use Rattle.map_geometry.specs.declared.records.DivLine.{DivLine}
use Rattle.map_geometry.specs.Lists.{Lists}
use Rattle.map_geometry.specs.Sides.{plus, less}
use Rattle.cow_world.specs.declared.records.Thing.{Thing}
use Rattle.cow_world.specs.declared.records.Player.{Player}
use Rattle.cow_world.specs.Flat.{Gridded, parts, player_thing}
use Rattle.cow_world.specs.Outcome.{Outcome, goes, and_then}
use Rattle.slide_geom.specs.Traced.{trace_along}
use Rattle.slide_geom.specs.Stops.{stops}

-- along one axis, the end of the player's box that leads the way, 16 units from the middle; without a way up it is the
-- lower
abbrev pub leading : ℤ → ℤ → ℤ
leading place momentum = if is_positive momentum then plus place (pos 1048576) else less place (pos 1048576)

-- and the other end
abbrev pub trailing : ℤ → ℤ → ℤ
trailing place momentum = if is_positive momentum then less place (pos 1048576) else plus place (pos 1048576)

-- of lines in the order in which they are met, the first that stops the player, with its fraction
abbrev pub first_stop : Lists → Gridded → Thing → List (ℤ × ℕ) → Option (ℤ × ℕ)
first_stop level world player met = find (λ pair. stops level world player pair.1) met

-- the first line on a way that stops the player
abbrev pub stop_on : Lists → Gridded → Thing → DivLine → Outcome (Option (ℤ × ℕ))
stop_on level world player way =
    and_then (trace_along level way) (λ met. goes (first_stop level world player met))

-- the stop with the lesser fraction; of two that are equal, the first
abbrev pub nearer : Option (ℤ × ℕ) → Option (ℤ × ℕ) → Option (ℤ × ℕ)
nearer None second = second
nearer (Some first) None = Some first
nearer (Some first) (Some second) = if int_lt second.0 first.0 then Some second else Some first

-- the way of the player's momentum from a place
abbrev pub way_from : ℤ → ℤ → Player → DivLine
way_from x y player = record { x = x; y = y; dx = player.momx; dy = player.momy }

-- the nearest stop on three ways: from the corner that leads on both axes, from that which trails in x, and from that
-- which trails in y
abbrev pub best_for : Lists → Gridded → Thing → Player → Outcome (Option (ℤ × ℕ))
best_for level world thing player =
    and_then (stop_on level world thing (way_from (leading thing.x player.momx) (leading thing.y player.momy) player))
    (λ first. and_then (stop_on level world thing (way_from (trailing thing.x player.momx) (leading thing.y player.momy) player))
    (λ second. and_then (stop_on level world thing (way_from (leading thing.x player.momx) (trailing thing.y player.momy) player))
    (λ third. goes (nearer (nearer first second) third))))

-- The fraction of the move at which the player is stopped, and the line that does it; none where nothing stops the
-- player before the end of the move.
unfoldable pub best_of : Lists → Gridded → Outcome (Option (ℤ × ℕ))
best_of level world = best_for level world (player_thing world) (parts world).player
