-- the copy and the pages that are left are the whole, and each item that was copied took one step
use Rattle.std.proofs.Common.{◌≡◌, ◌+◌, ◌++◌, ◌≤◌, length, drop}
use Rattle.page_store.specs.Pages.{pieces_of, joined}
use Rattle.page_store.specs.Under.{under}
use Rattle.page_store.proofs.pages.copy_pages_onto.Given as goal

abbrev pub invariant-loop-page : goal.invariant-loop-page
invariant-loop-page g l = record {
  copied : l.copy.items ++ joined (pieces_of (under l.base l.settled) (drop l.page-index l.pages)) ≡ l.fn.copy.items ++ joined (pieces_of (under l.base l.settled) l.pages);
  tics : l.steps.tics ≡ l.fn.steps.tics;
  least : l.fn.steps.pages ≤ l.steps.pages;
  most : l.steps.pages + length (joined (pieces_of (under l.base l.settled) (drop l.page-index l.pages))) ≤ l.fn.steps.pages + length (joined (pieces_of (under l.base l.settled) l.pages));
}
