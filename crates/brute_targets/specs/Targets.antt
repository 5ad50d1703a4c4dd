-- The targets of a search, and which worlds meet them.
use Rattle.std.specs.Prelude.{ℕ, ◌+◌, ℤ, pos, int_lt, Bool, true, false, not, ◌&&◌, Option, Some, None, List, [], ◌∷◌, slice_get}
use Rattle.std.specs.Option.{option_map_or}
use Rattle.std.specs.Ordering.{int_eq}
use Rattle.game_trait.specs.declared.game.Game.{Ghosts}
use Rattle.game_trait.specs.declared.shown.Quantity.TheVariants.{Exited}
use Rattle.game_trait.specs.Shown.{is_halted}
use Rattle.brute_targets.specs.declared.want.Op.{Op}
use Rattle.brute_targets.specs.declared.want.Op.TheVariants.{Less, LessEqual, Equal, NotEqual, GreaterEqual, Greater}
use Rattle.brute_targets.specs.declared.want.Want.{Want}
use Rattle.brute_targets.specs.declared.want.Want.TheVariants.{Reading, Line, Exit}

-- a reading compares so with a value
abbrev pub compares : Op → ℤ → ℤ → Bool
compares Less reading value = int_lt reading value
compares LessEqual reading value = not (int_lt value reading)
compares Equal reading value = int_eq reading value
compares NotEqual reading value = not (int_eq reading value)
compares GreaterEqual reading value = not (int_lt reading value)
compares Greater reading value = int_lt value reading

-- there is a reading, and it compares so with the value
abbrev pub reads : Op → ℤ → Option ℤ → Bool
reads op value None = false
reads op value (Some reading) = compares op reading value

-- a target holds in a world, where `acted` says that its line acted on the way there
abbrev pub holds_in : {G W : Type 0} → Ghosts G W → G → W → Bool → Want → Bool
holds_in rules game world acted (Reading quantity op value) = reads op value (rules.reading_of game world quantity)
holds_in rules game world acted (Line line) = acted
holds_in rules game world acted Exit = reads NotEqual (pos 0) (rules.reading_of game world Exited)

-- all targets do, where `acted` says of the place of each target that its line acted
abbrev pub all_hold : {G W : Type 0} → Ghosts G W → G → W → (ℕ → Bool) → ℕ → List Want → Bool
all_hold rules game world acted place [] = true
all_hold rules game world acted place (want ∷ rest) =
    holds_in rules game world (acted place) want && all_hold rules game world acted (place + 1) rest

-- the world meets the targets: it is not halted, and all hold. Where there is none, a world that is not halted does
abbrev pub is_met : {G W : Type 0} → Ghosts G W → G → W → (ℕ → Bool) → List Want → Bool
is_met rules game world acted wants = not (is_halted (rules.shown_of game world)) && all_hold rules game world acted 0 wants

-- a target is a line that acted in the last step to this world
abbrev pub acts_now : {G W : Type 0} → Ghosts G W → G → W → Want → Bool
acts_now rules game world (Line line) = rules.acted_of game world line
acts_now rules game world (Reading quantity op value) = false
acts_now rules game world Exit = false

-- the target at this place is, if there is one
abbrev pub acts_at : {G W : Type 0} → Ghosts G W → G → W → List Want → ℕ → Bool
acts_at rules game world wants i = option_map_or (acts_now rules game world) (slice_get wants i) false
