-- Walks: the worlds along the sequence that was tried last.
use Rattle.std.specs.Prelude.{◌≡◌, ℕ, ◌+◌, ◌-◌, ◌<◌, ◌≤◌, min, List, [], length, take, slice_index_or}
use Rattle.lmp_codec.specs.declared.input.Tic.{Tic}
use Rattle.game_trait.specs.declared.game.Game.{Ghosts}
use Rattle.game_trait.specs.Replay.{after_all}
use Rattle.brute_ranges.specs.Space.{Ranges, sequence_at, shared_front}
use Rattle.brute_targets.specs.declared.want.Want.{Want}
use Rattle.brute_targets.specs.Meets.{AreLines}
use Rattle.brute_run.specs.Search.{count_of}

-- The kept world, and of each depth along the sequence with the last number the world after that tic and the line bits
-- of all steps up to there.
pub record Walked (W : Type 0) : Type 0 where
  pub kept : W
  pub worlds : List W
  pub lines : List ℕ
  pub last : ℕ

-- no number was tried
abbrev pub fresh_walk : {W : Type 0} → W → Walked W
fresh_walk kept = record { kept = kept; worlds = []; lines = []; last = 0 }

-- the world where the walk has come to: the last one, or the kept one; and the line bits there
abbrev pub top_world : {W : Type 0} → W → List W → W
top_world kept worlds = slice_index_or worlds (length worlds - 1) kept

abbrev pub top_lines : List ℕ → ℕ
top_lines lines = slice_index_or lines (length lines - 1) 0

-- the world after these tics, and its line bits
pub record IsStop {G W : Type 0} (rules : Ghosts G W) (game : G) (kept : W) (wants : List Want) (tics : List Tic) (world : W) (lines : ℕ) : Type 0 where
  pub same : world ≡ after_all rules game kept tics
  pub fitting : rules.fits game world
  pub lines_are : AreLines rules game kept wants tics lines

-- world and line bits k are those after the first k + 1 tics
pub record AreAlong {G W : Type 0} (rules : Ghosts G W) (game : G) (kept : W) (wants : List Want) (tics : List Tic) (worlds : List W) (lines : List ℕ) : Type 0 where
  pub within : length worlds ≤ length tics
  pub paired : length lines ≡ length worlds
  pub each : (k : ℕ) → k < length worlds
      → IsStop rules game kept wants (take (k + 1) tics) (slice_index_or worlds k kept) (slice_index_or lines k 0)

-- the walk is one of this game, for these targets, over these sequences
pub record Belongs {G W : Type 0} (rules : Ghosts G W) (game : G) (wants : List Want) (ranges : Ranges) (walk : Walked W) : Type 0 where
  pub fitting : rules.fits game walk.kept
  pub last : walk.last < count_of ranges
  pub along : AreAlong rules game walk.kept wants (sequence_at ranges walk.last) walk.worlds walk.lines

-- how many leading tics a number shares with the number that was tried last; none where none was tried
abbrev pub shared_with : {W : Type 0} → Walked W → Ranges → ℕ → ℕ
shared_with walk ranges number = min (length walk.worlds) (shared_front (sequence_at ranges walk.last) (sequence_at ranges number))
