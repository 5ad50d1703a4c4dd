-- What the sample game does in a tic, and what its worlds show.
use Rattle.std.specs.Prelude.{ℕ, ◌+◌, ◌-◌, ◌^◌, ◌==◌, min, Bool, true, false, if◌then◌else◌, ℤ, pos, Option, None, Some}
use Rattle.std.specs.Int.{int_wrapping_add, w32}
use Rattle.lmp_codec.specs.declared.input.Tic.{Tic}
use Rattle.game_trait.specs.declared.shown.Shown.{Shown}
use Rattle.game_trait.specs.declared.shown.Shown.TheVariants.{Live, Halted}
use Rattle.game_trait.specs.declared.shown.Quantity.{Quantity}
use Rattle.game_trait.specs.declared.shown.Quantity.TheVariants.{X}
use Rattle.game_trait.specs.declared.shown.Halt.TheVariants.{Attack}
use Rattle.sample_games.specs.declared.game.SampleWorld.{SampleWorld}

-- nothing has happened
abbrev pub opening : SampleWorld
opening = record { tics = 0; x = pos 0; acts = false; halted = false }

-- One more tic: an attack halts, a use lets line 0 act, and the way ahead is added up, so far as 32 bits tell. A world
-- that is halted stays as it is.
abbrev pub after : SampleWorld → Tic → SampleWorld
after world tic =
    if world.halted then world
    else if tic.buttons == 1 then record { tics = min (world.tics + 1) (2 ^ 64 - 1); x = world.x; acts = false; halted = true }
    else record { tics = min (world.tics + 1) (2 ^ 64 - 1); x = int_wrapping_add w32 world.x tic.forward; acts = tic.buttons == 2; halted = false }

abbrev pub shown_of : SampleWorld → Shown
shown_of world =
    if world.halted then Halted world.tics Attack
    else Live world.tics world.x (pos 0) (pos 0) (pos 0) (pos 0) (pos 0) 0 0 0

abbrev pub reading_in : SampleWorld → Quantity → ℤ
reading_in world X = world.x
reading_in world _ = pos 0

abbrev pub reading_of : SampleWorld → Quantity → Option ℤ
reading_of world quantity = if world.halted then None else Some (reading_in world quantity)

abbrev pub acted_of : SampleWorld → ℕ → Bool
acted_of world line = if world.halted then false else if line == 0 then world.acts else false
