-- the nearest place of the hands so far
use Rattle.std.proofs.Common.{◌≡◌, ℕ, ◌<◌, ◌≤◌, false, get_or, length}
use Rattle.search_core.specs.Order.{is_over}
use Rattle.search_core.proofs.order.running_place.Given as goal

abbrev pub invariant-loop-hand : goal.invariant-loop-hand
invariant-loop-hand l = record {
  onward : l.place ≤ l.nearest;
  within : l.nearest ≤ length l.turns;
  found : l.nearest < length l.turns → is_over l.core (get_or l.turns l.nearest 0) ≡ false;
  nearest : (i : ℕ) → i < l.hand → is_over l.core i ≡ false → l.nearest ≤ get_or l.next i 0;
}
