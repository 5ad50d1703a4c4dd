-- How many tics a search plays.
use Rattle.std.specs.Prelude.{ℕ, zero, suc, ◌+◌, ◌-◌, ◌*◌, ◌%◌, min, nat_eq, Bool, if◌then◌else◌, length}
use Rattle.doom_edge.specs.Costs.{Cost}
use Rattle.game_trait.specs.declared.game.Game.{Ghosts}
use Rattle.brute_ranges.specs.Space.{Ranges, sequence_at, shared_front}
use Rattle.brute_targets.specs.declared.want.Want.{Want}
use Rattle.search_core.specs.Numbers.{block_count, first_of, sum_below}
use Rattle.brute_run.specs.Search.{count_of, meets, all_meeting}
use Rattle.std.specs.Prelude.{List}

-- a search claims its numbers in blocks of so many
abbrev pub block_size : ℕ
block_size = 256

-- how many leading tics a sequence shares with the one before it; the first one shares none
abbrev pub shared_before : Ranges → ℕ → ℕ
shared_before ranges zero = 0
shared_before ranges (suc k) = shared_front (sequence_at ranges k) (sequence_at ranges (suc k))

-- the tics that it does not share
abbrev pub new_tics : Ranges → ℕ → ℕ
new_tics ranges k = length ranges.tics - shared_before ranges k

-- the most tics that are played for a sequence: all of them for the first one of a block, and else the new ones
abbrev pub most_tics : Ranges → ℕ → ℕ
most_tics ranges k = if nat_eq (k % block_size) 0 then length ranges.tics else new_tics ranges k

-- these added up, for so many numbers from k on, up to and with the first that meets
abbrev pub tics_until_met : (ℕ → Bool) → Ranges → ℕ → ℕ → ℕ
tics_until_met test ranges k zero = 0
tics_until_met test ranges k (suc n) = most_tics ranges k + (if test k then 0 else tics_until_met test ranges (k + 1) n)

-- the most tics of a block
abbrev pub block_cost : (ℕ → Bool) → Ranges → ℕ → ℕ
block_cost test ranges n = tics_until_met test ranges (n * block_size) (min block_size (count_of ranges - n * block_size))

-- What a search costs, by the test of its numbers and the first that meets: at least the new tics of each number below
-- that one, and at most what all blocks cost.
abbrev pub cost_by : (ℕ → Bool) → Ranges → ℕ → Cost
cost_by test ranges first = record {
  least = sum_below (new_tics ranges) first;
  most = sum_below (block_cost test ranges) (block_count (count_of ranges) block_size);
}

abbrev pub search_cost : {G W : Type 0} → Ghosts G W → G → W → List Want → Ranges → Cost
search_cost rules game kept wants ranges =
    cost_by (meets rules game kept wants ranges) ranges (first_of (count_of ranges) (all_meeting rules game kept wants ranges))
