use Rattle.std.proofs.Common.{◌≡◌, ◌≤◌}
use Rattle.search_core.specs.Machine.{work}
use Rattle.brute_run.specs.Simulating.{IsSearching}
use Rattle.brute_run.proofs.order.simulate_by.Given as goal

-- the search has come so far
abbrev pub invariant-trying : goal.invariant-trying
invariant-trying g l = record {
  searching : IsSearching g.G.Game l.game l.wants l.space l.fn.kept l.turns l.fn.steps.tics l.walks.items l.search l.steps.tics;
  kept : l.kept ≡ l.fn.kept;
  tics_never_fall : l.fn.steps.tics ≤ l.steps.tics;
  pages_never_fall : l.fn.steps.pages ≤ l.steps.pages;
}

abbrev pub decreases-trying : goal.decreases-trying
decreases-trying g l = work l.search.core
