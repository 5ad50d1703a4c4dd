-- A slide: what a player does whose move was refused. Momenta and fractions are in fixed point; sums and differences
-- wrap in 32 bits.
use Rattle.std.specs.Prelude.{ℕ, zero, suc, ℤ, pos, Bool, true, int_le, Option, Some, None, if◌then◌else◌}
use Rattle.std.specs.Int.{int_min}
use Rattle.fixed_angle.specs.Fixed.{mul}
use Rattle.fixed_angle.specs.Tables.{Tables}
use Rattle.map_geometry.specs.declared.records.Line.{Line}
use Rattle.map_geometry.specs.Lists.{Lists, nth_line}
use Rattle.map_geometry.specs.Sides.{less, plus, side_of_line}
use Rattle.cow_world.specs.declared.records.Player.{Player}
use Rattle.cow_world.specs.declared.records.Thing.{Thing}
use Rattle.cow_world.specs.Flat.{Gridded, player_thing}
use Rattle.cow_world.specs.Outcome.{Outcome, goes, and_then}
use Rattle.slide_geom.specs.Best.{best_of}
use Rattle.slide_geom.specs.Along.{along_of}
use Rattle.player_move.specs.declared.slides.Pass.{Pass}
use Rattle.player_move.specs.declared.slides.Pass.TheVariants.{Ended, Stuck, Again}
use Rattle.player_move.specs.Player.{player_of, with_momentum}
use Rattle.player_move.specs.Tries.{try_of, try_by}

-- the player tries its momentum in y alone, and in x alone
abbrev pub try_y : Lists → Tables → Gridded → Outcome (Gridded × Bool)
try_y level tables world = try_of level tables world (player_thing world).x (plus (player_thing world).y (player_of world).momy)

abbrev pub try_x : Lists → Tables → Gridded → Outcome (Gridded × Bool)
try_x level tables world = try_of level tables world (plus (player_thing world).x (player_of world).momx) (player_thing world).y

-- The stair step: the first of them, and where that is refused, the other.
abbrev pub stair_of : Lists → Tables → Gridded → Outcome Gridded
stair_of level tables world =
    and_then (try_y level tables world) (λ tried. if tried.1 then goes tried.0 else and_then (try_x level tables tried.0) (λ last. goes last.0))

-- a part of the player's momentum
abbrev pub share_of : Player → ℤ → ℤ × ℤ
share_of player part = (mul player.momx part, mul player.momy part)

-- the player tries a part of its momentum
abbrev pub try_part : Lists → Tables → Gridded → ℤ → Outcome (Gridded × Bool)
try_part level tables world part = try_by level tables world (share_of (player_of world) part).0 (share_of (player_of world) part).1

-- the part of the move up to a line, less a 32nd of the move, so that the player does not touch the line
abbrev pub up_to : ℤ → ℤ
up_to fraction = less fraction (pos 2048)

-- the player comes near to the line, unless it is there; and whether it was let
abbrev pub near_of : Lists → Tables → Gridded → ℤ → Outcome (Gridded × Bool)
near_of level tables world fraction = if int_le (up_to fraction) (pos 0) then goes (world, true) else try_part level tables world (up_to fraction)

-- the part of the move that is left behind the line, at most all of it
abbrev pub left_behind : ℤ → ℤ
left_behind fraction = int_min (less (pos 65536) fraction) (pos 65536)

-- a move, bent along a line from a thing's side
abbrev pub bend_of : Tables → Line → Thing → ℤ × ℤ → ℤ × ℤ
bend_of tables line thing to = along_of tables line (side_of_line line thing.x thing.y) to.0 to.1

-- a part of the player's momentum, bent along a line
abbrev pub bent_of : Lists → Tables → Gridded → ℕ → ℤ → ℤ × ℤ
bent_of level tables world line part = bend_of tables (nth_line level line) (player_thing world) (share_of (player_of world) part)

-- where the last try of a pass was refused, the next pass begins
abbrev pub pass_after : Bool → Pass
pass_after went = if went then Ended else Again

-- this becomes the player's momentum, and the player tries it
abbrev pub driven_by : Lists → Tables → Gridded → ℤ × ℤ → Outcome (Gridded × Pass)
driven_by level tables world to =
    and_then (try_by level tables (with_momentum world to.0 to.1) to.0 to.1) (λ tried. goes (tried.0, pass_after tried.1))

-- what is left of the move goes on along the line
abbrev pub on_along : Lists → Tables → Gridded → ℤ × ℕ → Outcome (Gridded × Pass)
on_along level tables world stop =
    if int_le (left_behind stop.0) (pos 0) then goes (world, Ended)
    else driven_by level tables world (bent_of level tables world stop.1 (left_behind stop.0))

-- a pass, by the nearest line that stops the player
abbrev pub pass_by : Lists → Tables → Gridded → Option (ℤ × ℕ) → Outcome (Gridded × Pass)
pass_by level tables world None = goes (world, Stuck)
pass_by level tables world (Some stop) =
    and_then (near_of level tables world stop.0) (λ near. if near.1 then on_along level tables near.0 stop else goes (near.0, Stuck))

unfoldable pub pass_of : Lists → Tables → Gridded → Outcome (Gridded × Pass)
pass_of level tables world = and_then (best_of level world) (λ best. pass_by level tables world best)

-- what follows a pass: nothing, the stair step, or what is left of the slide
abbrev pub after_pass : Lists → Tables → (Gridded → Outcome Gridded) → Gridded → Pass → Outcome Gridded
after_pass level tables rest world Ended = goes world
after_pass level tables rest world Stuck = stair_of level tables world
after_pass level tables rest world Again = rest world

-- a slide of so many passes at most; the stair step stands in place of one more
unfoldable pub slide_of : Lists → Tables → ℕ → Gridded → Outcome Gridded
slide_of level tables zero world = stair_of level tables world
slide_of level tables (suc left) world = and_then (pass_of level tables world) (λ pass. after_pass level tables (slide_of level tables left) pass.0 pass.1)
