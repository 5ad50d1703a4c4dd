-- the fresh ones among the entries so far were appended
use Rattle.std.proofs.Common.{◌≡◌, ◌++◌, take}
use Rattle.std.specs.List.{filter}
use Rattle.link_order.specs.Parts.{is_fresh}
use Rattle.link_order.proofs.base.Base.push_fresh.Given as goal

abbrev pub invariant-loop-linked : goal.invariant-loop-linked
invariant-loop-linked l = record {
  same : l.linked-items ≡ l.fn.self.entries;
  pushed : l.into.items ≡ l.fn.into.items ++ filter (is_fresh l.recent) (take l.linked-index l.linked-items);
}
