-- the copy and the pages that are left are the whole, and each item that was copied took one step
use Rattle.std.proofs.Common.{◌≡◌, ◌+◌, ◌++◌, ◌≤◌, length, drop}
use Rattle.page_store.specs.Pages.{named_pieces, joined}
use Rattle.page_store.proofs.settled.copy_table_onto.Given as goal

abbrev pub invariant-loop-page : goal.invariant-loop-page
invariant-loop-page g l = record {
  copied : l.copy.items ++ joined (named_pieces l.base (drop l.page-index l.table)) ≡ l.fn.copy.items ++ joined (named_pieces l.base l.table);
  tics : l.steps.tics ≡ l.fn.steps.tics;
  least : l.fn.steps.pages ≤ l.steps.pages;
  most : l.steps.pages + length (joined (named_pieces l.base (drop l.page-index l.table))) ≤ l.fn.steps.pages + length (joined (named_pieces l.base l.table));
}
