-- The plain replay of a list of tics, in a game's own terms.
use Rattle.std.specs.Prelude.{◌≡◌, List, fold}
use Rattle.lmp_codec.specs.declared.input.Tic.{Tic}
use Rattle.game_trait.specs.declared.game.Game.{Ghosts}

-- the world after these tics, one after the other, from this one on
abbrev pub after_all : {G W : Type 0} → Ghosts G W → G → W → List Tic → W
after_all rules game world tics = fold (rules.after game) world tics

-- the world after these tics from the start
abbrev pub replay : {G W : Type 0} → Ghosts G W → G → List Tic → W
replay rules game tics = after_all rules game (rules.opening game) tics

-- the world means the plain replay of these tics, and may be played on
pub record IsReplay {G W : Type 0} (rules : Ghosts G W) (game : G) (tics : List Tic) (world : W) : Type 0 where
  pub same : world ≡ replay rules game tics
  pub fitting : rules.fits game world
