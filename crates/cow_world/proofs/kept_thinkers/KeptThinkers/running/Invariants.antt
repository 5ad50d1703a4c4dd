-- what was copied is the running among the kept so far
use Rattle.std.proofs.Common.{◌≡◌, ◌+◌, ◌*◌, ◌≤◌, take, filter}
use Rattle.page_store.specs.Over.{seen, IsOver}
use Rattle.cow_world.specs.KeptThinkers.{is_running}
use Rattle.cow_world.proofs.kept_thinkers.KeptThinkers.running.Given as goal

abbrev pub invariant-loop-k : goal.invariant-loop-k
invariant-loop-k l = record {
  over : IsOver l.fn.base l.running;
  running : seen l.fn.base l.running ≡ filter is_running (take l.k (seen l.fn.base l.fn.self.kept));
  tics : l.steps.tics ≡ l.fn.steps.tics;
  least : l.fn.steps.pages ≤ l.steps.pages;
  most : l.steps.pages ≤ l.fn.steps.pages + 34 * l.k;
}
