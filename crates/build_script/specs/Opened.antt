-- An open search, as it is seen. This file names no type of the crate.
use Rattle.std.specs.Prelude.{ℕ, ◌≤◌, List, length, All}
use Rattle.brute_ranges.specs.Tics.{IsSound}
use Rattle.brute_ranges.specs.Space.{Ranges, IsDeep}
use Rattle.brute_targets.specs.declared.want.Want.{Want}

-- the line at which it was opened, the ranges of its tics, and its targets
pub record Opened : Type 0 where
  pub line : ℕ
  pub ranges : Ranges
  pub wants : List Want

-- it may become the search of a command, but for the number of its sequences
pub record IsOpened (search : Opened) : Type 0 where
  pub deep : IsDeep search.ranges.tics
  pub each : All (IsSound search.ranges.long) search.ranges.tics
  pub few : length search.wants ≤ 16
