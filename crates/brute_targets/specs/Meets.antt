-- Which sequences of tics meet the targets, played on from a kept world.
use Rattle.std.specs.Prelude.{◌≡◌, ℕ, Bool, false, not, ◌&&◌, ◌||◌, List, [], ◌∷◌, slice_get}
use Rattle.std.specs.List.{list_all}
use Rattle.std.specs.Option.{option_map_or}
use Rattle.lmp_codec.specs.declared.input.Tic.{Tic}
use Rattle.game_trait.specs.declared.game.Game.{Ghosts}
use Rattle.game_trait.specs.Replay.{after_all}
use Rattle.game_trait.specs.Shown.{is_halted}
use Rattle.brute_targets.specs.declared.want.Want.{Want}
use Rattle.brute_targets.specs.Lines.{has_bit}
use Rattle.brute_targets.specs.Targets.{holds_in, acts_now}

-- a target is a line that acted in the step of one of the tics
abbrev pub acted_in : {G W : Type 0} → Ghosts G W → G → W → List Tic → Want → Bool
acted_in rules game world [] want = false
acted_in rules game world (tic ∷ rest) want =
    acts_now rules game (rules.after game world tic) want || acted_in rules game (rules.after game world tic) rest want

-- a target holds of the tics: a reading and an exit in the world after the last of them, a line in any step
abbrev pub holds : {G W : Type 0} → Ghosts G W → G → W → List Tic → Want → Bool
holds rules game kept tics want = holds_in rules game (after_all rules game kept tics) (acted_in rules game kept tics want) want

-- the tics meet the targets: the world after the last of them is not halted, and each target holds
abbrev pub tics_meet : {G W : Type 0} → Ghosts G W → G → W → List Want → List Tic → Bool
tics_meet rules game kept wants tics =
    not (is_halted (rules.shown_of game (after_all rules game kept tics))) && list_all (holds rules game kept tics) wants

-- bit i says that target i is a line that acted in one of the tics
abbrev pub AreLines : {G W : Type 0} → Ghosts G W → G → W → List Want → List Tic → ℕ → Type 0
AreLines rules game kept wants tics lines =
    (i : ℕ) → has_bit lines i ≡ option_map_or (acted_in rules game kept tics) (slice_get wants i) false
