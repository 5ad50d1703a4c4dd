use Rattle.std.proofs.Common.{◌≡◌, ◌-◌, ◌≤◌, length}
use Rattle.doom_edge.specs.Counts.{raised}
use Rattle.brute_run.specs.Walks.{Belongs}
use Rattle.brute_run.proofs.walk.Walk.extend.Given as goal

-- the walk belongs still, and has come to this place, one step a tic
abbrev pub invariant-playing : goal.invariant-playing
invariant-playing g l = record {
  belongs : Belongs g.G.Game l.game l.wants l.space l.self;
  kept : l.self.kept ≡ l.fn.self.kept;
  last : l.self.last ≡ l.fn.self.last;
  place : length l.self.worlds ≡ l.place;
  tics : l.steps.tics ≡ raised l.fn.steps.tics (l.place - length l.fn.self.worlds);
  tics_never_fall : l.fn.steps.tics ≤ l.steps.tics;
  pages_never_fall : l.fn.steps.pages ≤ l.steps.pages;
}
