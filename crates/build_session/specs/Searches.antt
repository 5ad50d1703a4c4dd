-- Who answers a search, and what it tells beside the answer.
use Rattle.std.specs.Prelude.{ℕ, ◌≤◌, Option, Some, None, List}
use Rattle.game_trait.specs.declared.game.Game.{Ghosts}
use Rattle.search_core.specs.Order.{events_of}
use Rattle.brute_ranges.specs.Space.{Ranges}
use Rattle.brute_targets.specs.declared.want.Want.{Want}
use Rattle.brute_run.specs.Search.{count_of, all_meeting}
use Rattle.brute_run.specs.Costs.{block_size}
use Rattle.build_session.specs.declared.searches.Searcher.{Searcher}
use Rattle.build_session.specs.declared.searches.Searcher.TheVariants.{Workers, Hands}

-- There are 1 to 64 workers; an order that was read is one of hands below 64.
abbrev pub CanSearch : Searcher → Type 0
CanSearch (Workers count) = (1 ≤ count) × (count ≤ 64)
CanSearch (Hands turns) = Unit {0}

-- how many turns a search from a world takes, where nothing tells of turns
abbrev pub untold : {G W : Type 0} → G → W → Ranges → List Want → Option ℕ
untold game kept ranges wants = None

-- how many turns it takes by hands in blocks under an order
abbrev pub turns_of_order : {G W : Type 0} → Ghosts G W → List ℕ → G → W → Ranges → List Want → Option ℕ
turns_of_order rules order game kept ranges wants = Some (events_of (count_of ranges) block_size (all_meeting rules game kept wants ranges) order)

-- workers tell of no turns
abbrev pub turns_of : {G W : Type 0} → Searcher → Ghosts G W → G → W → Ranges → List Want → Option ℕ
turns_of (Workers count) rules = untold
turns_of (Hands turns) rules = turns_of_order rules turns.now
