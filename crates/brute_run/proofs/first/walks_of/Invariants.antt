use Rattle.std.proofs.Common.{◌≡◌, ◌≤◌, length}
use Rattle.std.specs.Prelude.{All}
use Rattle.brute_run.specs.Walks.{fresh_walk}
use Rattle.brute_run.proofs.first.walks_of.Given as goal

-- as many walks as turns
abbrev pub invariant-forking : goal.invariant-forking
invariant-forking g l = record {
  kept : l.kept ≡ l.fn.kept;
  fits : g.G.Game.fits l.game l.kept;
  walks : All (λ walk. walk ≡ fresh_walk l.fn.kept) l.walks.items;
  count : length l.walks.items ≡ l.counter;
  tics : l.steps.tics ≡ l.fn.steps.tics;
  pages_never_fall : l.fn.steps.pages ≤ l.steps.pages;
}
