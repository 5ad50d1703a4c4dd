-- A try: the player moves to a place at once, or is refused. Coordinates and heights are in fixed point; sums and
-- differences wrap in 32 bits.
use Rattle.std.specs.Prelude.{ℕ, ◌==◌, ℤ, pos, Bool, true, false, not, ◌||◌, int_lt, List, [], ◌∷◌, reverse, if◌then◌else◌}
use Rattle.fixed_angle.specs.Tables.{Tables}
use Rattle.map_geometry.specs.declared.records.Line.{Line}
use Rattle.map_geometry.specs.Lists.{Lists, nth_line}
use Rattle.map_geometry.specs.Sides.{less, plus, side_of_line}
use Rattle.cow_world.specs.declared.records.Thing.{Thing}
use Rattle.cow_world.specs.Flat.{Gridded, player_thing, line_special_at, link}
use Rattle.cow_world.specs.Outcome.{Outcome, goes, and_then}
use Rattle.clip_check.specs.declared.trial.Checked.{Checked}
use Rattle.clip_check.specs.Checks.{check_of}
use Rattle.line_specials.specs.declared.crosses.Crossed.{Crossed}
use Rattle.line_specials.specs.declared.crosses.Crossed.TheVariants.{Stays, Teleported}
use Rattle.line_specials.specs.Acts.{cross_of}
use Rattle.player_move.specs.declared.tries.Passage.{Passage}
use Rattle.player_move.specs.Player.{player_of, set_own_thing}

-- A player at this height may not go where this was found: something blocks, the ceiling is less than 56 units, the
-- player's height, above the floor or above the player's feet, or the floor is a step of more than 24 units.
abbrev pub is_refused : ℤ → Checked → Bool
is_refused z found =
    not found.clear
    || (int_lt (less found.ceiling found.floor) (pos 3670016)
    || (int_lt (less found.ceiling z) (pos 3670016)
    || int_lt (pos 1572864) (less found.floor z)))

-- between another floor and ceiling
abbrev pub between : Thing → ℤ → ℤ → Thing
between thing floor ceiling = record thing { floorz = floor; ceilingz = ceiling }

-- the player comes to a place, between the floor and the ceiling that were found there, and is linked anew
abbrev pub arrived : Gridded → Checked → ℤ → ℤ → Gridded
arrived world found x y = link (set_own_thing world (between (player_thing world) found.floor found.ceiling)) (player_of world).thing x y

-- ---- the lines that are crossed

-- the way from where the player stands to a place
abbrev pub passage_to : Gridded → ℤ → ℤ → Passage
passage_to world x y = record { x1 = (player_thing world).x; y1 = (player_thing world).y; x2 = x; y2 = y }

-- the side of a line on which a way begins, and that on which it ends
abbrev pub side_before : Passage → Line → ℕ
side_before way line = side_of_line line way.x1 way.y1

abbrev pub side_after : Passage → Line → ℕ
side_after way line = side_of_line line way.x2 way.y2

-- a line that still has a special is crossed where the way begins and ends on different sides of it
abbrev pub cross_one : Lists → Tables → Passage → Gridded → ℕ → Outcome (Gridded × Crossed)
cross_one level tables way world line =
    if line_special_at world line == 0 then goes (world, Stays)
    else if side_before way (nth_line level line) == side_after way (nth_line level line) then goes (world, Stays)
    else cross_of level tables world line (side_before way (nth_line level line))

-- the player went away by this crossing
abbrev pub is_away : Crossed → Bool
is_away Stays = false
is_away Teleported = true

-- one line after the other; a teleport ends them, and so does a halt
abbrev pub cross_each : Lists → Tables → Passage → Gridded → List ℕ → Outcome Gridded
cross_each level tables way world [] = goes world
cross_each level tables way world (line ∷ lines) =
    and_then (cross_one level tables way world line) (λ crossed. if is_away crossed.1 then goes crossed.0 else cross_each level tables way crossed.0 lines)

-- ---- the try

-- the player has come to a place, and crosses the lines that were listed on the way, from the last to the first
abbrev pub gone_to : Lists → Tables → Gridded → Checked → ℤ → ℤ → Outcome Gridded
gone_to level tables world found x y = cross_each level tables (passage_to world x y) (arrived world found x y) (reverse found.listed)

-- after the check, with what was found; and whether the player went
abbrev pub settled_of : Lists → Tables → Gridded → Checked → ℤ → ℤ → Outcome (Gridded × Bool)
settled_of level tables world found x y =
    if is_refused (player_thing world).z found then goes (world, false)
    else and_then (gone_to level tables world found x y) (λ gone. goes (gone, true))

-- The player tries to move to a place. What it touches there it takes, also where it is refused.
unfoldable pub try_of : Lists → Tables → Gridded → ℤ → ℤ → Outcome (Gridded × Bool)
try_of level tables world x y =
    and_then (check_of level tables world (player_of world).thing x y) (λ checked. settled_of level tables checked.0 checked.1 x y)

-- the player tries to move by so much from where it stands
abbrev pub try_by : Lists → Tables → Gridded → ℤ → ℤ → Outcome (Gridded × Bool)
try_by level tables world dx dy = try_of level tables world (plus (player_thing world).x dx) (plus (player_thing world).y dy)
