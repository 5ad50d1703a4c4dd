-- What a world shows, by cases.
use Rattle.std.specs.Prelude.{Bool, true, false}
use Rattle.game_trait.specs.declared.shown.Shown.{Shown}
use Rattle.game_trait.specs.declared.shown.Shown.TheVariants.{Halted}

-- the world is halted
abbrev pub IsHalted : Shown → Type 0
IsHalted (Halted tic halt) = Unit {0}
IsHalted _ = ⊥

-- the same as a test, for what filters worlds
abbrev pub is_halted : Shown → Bool
is_halted (Halted tic halt) = true
is_halted _ = false
