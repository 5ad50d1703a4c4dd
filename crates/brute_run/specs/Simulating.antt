-- What a search by hands that take turns keeps, for the proofs.
use Rattle.std.specs.Prelude.{◌≡◌, ℕ, ◌+◌, ◌<◌, ◌≤◌, Bool, List, length, slice_index_or}
use Rattle.doom_edge.specs.Counts.{raised}
use Rattle.game_trait.specs.declared.game.Game.{Ghosts}
use Rattle.brute_ranges.specs.Space.{Ranges}
use Rattle.brute_targets.specs.declared.want.Want.{Want}
use Rattle.search_core.specs.Numbers.{sum_below}
use Rattle.search_core.specs.Machine.{Machine, IsMachine}
use Rattle.search_core.specs.Order.{Progress, Follows, events_of}
use Rattle.search_core.specs.Trail.{HaveTried}
use Rattle.search_core.specs.Dues.{left_to}
use Rattle.brute_run.specs.Search.{count_of, meets}
use Rattle.brute_run.specs.Walks.{Walked, fresh_walk, Belongs}
use Rattle.brute_run.specs.Costs.{block_size, block_cost}
use Rattle.brute_run.specs.Working.{trail, IsFull, passing, first_passing, most_left, least_left, least_block}

-- the walk of hand i
abbrev pub walk_at : {W : Type 0} → W → List (Walked W) → ℕ → Walked W
walk_at kept walks i = slice_index_or walks i (fresh_walk kept)

-- a walk from this kept world
pub record IsWalkFrom {G W : Type 0} (rules : Ghosts G W) (game : G) (wants : List Want) (ranges : Ranges) (kept : W) (walk : Walked W) : Type 0 where
  pub belongs : Belongs rules game wants ranges walk
  pub full : IsFull ranges walk
  pub kept_is : walk.kept ≡ kept

-- the tics that were played, and those that may and must follow, are those of the blocks that were claimed
pub record IsPlayed (test : ℕ → Bool) (ranges : Ranges) (before tics : ℕ) (core : Machine) : Type 0 where
  pub played : ℕ
  pub tics_are : tics ≡ raised before played
  pub most : played + left_to (most_left test ranges) core ≤ sum_below (block_cost test ranges) core.next
  pub least : sum_below (least_block ranges (first_passing test (count_of ranges))) core.next
      ≤ played + left_to (least_left ranges (first_passing test (count_of ranges))) core

pub record IsSearching {G W : Type 0} (rules : Ghosts G W) (game : G) (wants : List Want) (ranges : Ranges) (kept : W) (order : List ℕ) (before : ℕ)
    (walks : List (Walked W)) (search : Progress) (tics : ℕ) : Type 0 where
  pub sound : IsMachine search.core
  pub count_is : search.core.count ≡ count_of ranges
  pub block_is : search.core.block ≡ block_size
  pub follows : Follows (passing (meets rules game kept wants ranges) (count_of ranges))
      (events_of (count_of ranges) block_size (passing (meets rules game kept wants ranges) (count_of ranges)) order) search
  pub walks_are : length walks ≡ length search.core.hands
  pub each : (i : ℕ) → i < length walks → IsWalkFrom rules game wants ranges kept (walk_at kept walks i)
  pub tried : HaveTried (λ i. trail (walk_at kept walks i)) search.core
  pub paid : IsPlayed (meets rules game kept wants ranges) ranges before tics search.core
