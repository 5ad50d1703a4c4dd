-- the pages so far are full, and hold the front of the base
use Rattle.std.proofs.Common.{◌≡◌, ◌*◌, take}
use Rattle.page_store.specs.Pages.{pieces_of, joined, ArePages}
use Rattle.page_store.specs.Under.{under}
use Rattle.page_store.proofs.pages.pages_over.Given as goal

abbrev pub invariant-loop-k : goal.invariant-loop-k
invariant-loop-k g l = record {
  paged : ArePages (pieces_of (under l.base l.settled) l.pages.items);
  so_far : joined (pieces_of (under l.base l.settled) l.pages.items) ≡ take (32 * l.k) (under l.base l.settled);
}
