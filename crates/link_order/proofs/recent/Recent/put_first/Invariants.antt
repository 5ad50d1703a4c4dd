-- in front the new entry, and behind it those entries so far that are of another thing
use Rattle.std.proofs.Common.{◌≡◌, ◌+◌, ◌≤◌, ◌∷◌, take, length}
use Rattle.std.specs.List.{filter}
use Rattle.link_order.specs.Links.{is_other}
use Rattle.link_order.proofs.recent.Recent.put_first.Given as goal

abbrev pub invariant-loop-linked : goal.invariant-loop-linked
invariant-loop-linked l = record {
  long : length l.entries ≡ 4;
  same : l.linked-items ≡ l.fn.self;
  within : l.len ≤ l.linked-index + 1;
  put : take l.len l.entries ≡ l.first ∷ filter (is_other l.first.thing) (take l.linked-index l.linked-items);
}
