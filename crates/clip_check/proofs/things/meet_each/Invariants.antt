-- the things that are left give what all give from the first
use Rattle.std.proofs.Common.{◌≡◌, ◌≤◌, drop}
use Rattle.clip_check.proofs.Encounters.{Met}
use Rattle.clip_check.proofs.things.meet_each.Given as goal

abbrev pub invariant-loop-other : goal.invariant-loop-other
invariant-loop-other l = record {
  met : Met l.fn.level l.fn.tables l.fn.trial l.fn.near l.fn.world l.world (drop l.other-index l.near);
  tics : l.steps.tics ≡ l.fn.steps.tics;
  pages : l.fn.steps.pages ≤ l.steps.pages;
}
