-- Worlds that are kept along the replay of a list of tics, one every so many tics, so that a later replay can
-- go on from one of them.
use Rattle.std.specs.Prelude.{◌≡◌, ℕ, ◌+◌, ◌-◌, ◌*◌, ◌/◌, ◌<◌, ◌≤◌, ◌++◌, min, List, length, take, slice_get, Some}
use Rattle.lmp_codec.specs.declared.input.Tic.{Tic}
use Rattle.game_trait.specs.declared.game.Game.{Ghosts}
use Rattle.game_trait.specs.Replay.{IsReplay}

-- there is a frame every so many tics
abbrev pub frame_tics : ℕ
frame_tics = 256

-- the greatest multiple of that number that is not above this tic
abbrev pub frame_tic : ℕ → ℕ
frame_tic tic = frame_tics * (tic / frame_tics)

-- the tic of the last frame that is kept
abbrev pub reach : {W : Type 0} → List W → ℕ
reach frames = frame_tics * (length frames - 1)

-- the tic of the greatest frame that is kept and not above this tic, given that of the last one
abbrev pub frame_below : ℕ → ℕ → ℕ
frame_below last tic = min last (frame_tic tic)

-- the frames that are not past this tic
abbrev pub not_past : {W : Type 0} → List W → ℕ → List W
not_past frames tic = take (tic / frame_tics + 1) frames

-- These are the frames of a game along these tics, from the world before the first tic on: each is the plain
-- replay of all tics before it, and none is past the last tic.
pub record AreFrames {G W : Type 0}
    (rules : Ghosts G W) (game : G) (tics : List Tic) (frames : List W) : Type 0 where
  pub opened : 0 < length frames
  pub within : reach frames ≤ length tics
  pub each : (k : ℕ) (frame : W)
      → slice_get frames k ≡ Some frame
      → IsReplay rules game (take (frame_tics * k) tics) frame

-- these are frames along some tics that begin with these
abbrev pub AreFramesOn : {G W : Type 0} → Ghosts G W → G → List Tic → List W → Type 0
AreFramesOn rules game front frames = (rest : List Tic) × AreFrames rules game (front ++ rest) frames

-- what was along all such tics still is
abbrev pub StayFramesOn : {G W : Type 0} → Ghosts G W → G → List Tic → List W → List W → Type 0
StayFramesOn rules game front old new = (rest : List Tic) → AreFrames rules game (front ++ rest) old → AreFrames rules game (front ++ rest) new
