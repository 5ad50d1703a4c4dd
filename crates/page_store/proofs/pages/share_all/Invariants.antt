-- the pages keep their items, those so far have a second name, and each took two steps
use Rattle.std.proofs.Common.{◌≡◌, ◌+◌, ◌*◌, ◌≤◌, take}
use Rattle.page_store.specs.Pages.{named_pieces, pieces_of}
use Rattle.page_store.specs.Under.{under}
use Rattle.page_store.proofs.pages.share_all.Given as goal

abbrev pub invariant-loop-k : goal.invariant-loop-k
invariant-loop-k g l = record {
  kept : pieces_of (under l.base l.settled) l.pages.items ≡ pieces_of (under l.base l.settled) l.fn.pages.items;
  named : named_pieces l.base l.named.items ≡ take l.k (pieces_of (under l.base l.settled) l.fn.pages.items);
  tics : l.steps.tics ≡ l.fn.steps.tics;
  least : l.fn.steps.pages ≤ l.steps.pages;
  most : l.steps.pages ≤ l.fn.steps.pages + 2 * l.k;
}
