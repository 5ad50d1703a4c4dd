-- the steps so far are counted
use Rattle.std.proofs.Common.{◌≡◌, ◌+◌, ◌≤◌}
use Rattle.page_store.proofs.part.count.Given as goal

abbrev pub invariant-loop-i : goal.invariant-loop-i
invariant-loop-i l = record {
  tics : l.steps.tics ≡ l.fn.steps.tics;
  least : l.fn.steps.pages ≤ l.steps.pages;
  most : l.steps.pages ≤ l.fn.steps.pages + l._i;
}
