-- The player's move by its momentum. Momenta are in fixed point; 65536 is one unit a tic.
use Rattle.std.specs.Prelude.{◌≡◌, ℤ, pos, negsuc, Bool, false, ◌&&◌, ◌||◌, int_lt, int_div, List, [], ◌∷◌, if◌then◌else◌}
use Rattle.std.specs.Int.{int_min, int_max, int_div_euclid}
use Rattle.std.specs.Ordering.{int_eq}
use Rattle.std.proofs.Common.{arith}
use Rattle.std.proofs.lemmas.Int.{ints}
use Rattle.lmp_codec.specs.declared.input.Tic.{Tic}
use Rattle.fixed_angle.specs.Fixed.{mul}
use Rattle.fixed_angle.specs.Tables.{Tables}
use Rattle.map_geometry.specs.Lists.{Lists}
use Rattle.cow_world.specs.declared.records.Player.{Player}
use Rattle.cow_world.specs.Flat.{Gridded, player_thing}
use Rattle.cow_world.specs.Outcome.{Outcome, goes, and_then, each_from}
use Rattle.player_move.specs.Player.{player_of, with_momentum}
use Rattle.player_move.specs.Tries.{try_by}
use Rattle.player_move.specs.Slides.{slide_of}

-- at most 30 units a tic each way
abbrev pub limited : ℤ → ℤ
limited momentum = int_max (negsuc 1966079) (int_min momentum (pos 1966080))

-- the player with its momentum limited
abbrev pub within_limit : Gridded → Gridded
within_limit world = with_momentum world (limited (player_of world).momx) (limited (player_of world).momy)

-- more than 15 units up an axis
abbrev pub is_far : ℤ → Bool
is_far momentum = int_lt (pos 983040) momentum

-- a half, rounded toward zero, and rounded down
abbrev pub first_half : ℤ → ℤ
first_half momentum = int_div momentum (pos 2)

abbrev pub other_half : ℤ → ℤ
other_half momentum = int_div_euclid momentum (pos 2)

-- The parts of a move: two halves of one that leads far up an axis, and any other as it is.
abbrev pub parts_of_move : ℤ → ℤ → List (ℤ × ℤ)
parts_of_move momx momy =
    if is_far momx || is_far momy then (first_half momx, first_half momy) ∷ ((other_half momx, other_half momy) ∷ [])
    else (momx, momy) ∷ []

-- the player tries a part of the move from where it stands, and where that is refused, it slides in two passes at most
abbrev pub part_of_move : Lists → Tables → ℤ × ℤ → Gridded → Outcome Gridded
part_of_move level tables part world =
    and_then (try_by level tables world part.0 part.1) (λ tried. if tried.1 then goes tried.0 else slide_of level tables 2 tried.0)

-- slower than a 16th of a unit both ways
abbrev pub is_slow : ℤ → Bool
is_slow momentum = int_lt (negsuc 4095) momentum && int_lt momentum (pos 4096)

-- no key for a move ahead or aside is held
abbrev pub is_idle : Tic → Bool
is_idle tic = int_eq tic.forward (pos 0) && int_eq tic.side (pos 0)

-- a player stops that is slow both ways, and holds no key
abbrev pub comes_to_rest : Player → Tic → Bool
comes_to_rest player tic = (is_slow player.momx && is_slow player.momy) && is_idle tic

-- friction leaves 29 32nds of the momentum
abbrev pub rubbed : Gridded → Gridded
rubbed world = with_momentum world (mul (player_of world).momx (pos 59392)) (mul (player_of world).momy (pos 59392))

-- Friction, but not in the air.
abbrev pub slowed : Tic → Gridded → Gridded
slowed tic world =
    if int_lt (player_thing world).floorz (player_thing world).z then world
    else if comes_to_rest (player_of world) tic then with_momentum world (pos 0) (pos 0)
    else rubbed world

-- the player moves by its momentum, within the limit, part by part, and then is slowed
abbrev pub moved_of : Lists → Tables → Tic → Gridded → Outcome Gridded
moved_of level tables tic world =
    and_then (each_from (part_of_move level tables) world (parts_of_move (player_of world).momx (player_of world).momy))
    (λ moved. goes (slowed tic moved))

abbrev pub stands_still : Player → Bool
stands_still player = int_eq player.momx (pos 0) && int_eq player.momy (pos 0)

-- The player moves, unless it stands still.
unfoldable pub xy_of : Lists → Tables → Gridded → Tic → Outcome Gridded
xy_of level tables world tic = if stands_still (player_of world) then goes world else moved_of level tables tic (within_limit world)

-- ---- a law

-- no half of a momentum within the limit is far, so no part is halved again
pub half_is_near : (momentum : ℤ) → is_far (other_half (limited momentum)) ≡ false
half_is_near momentum = grind (arith, ints)
