use Rattle.std.proofs.Common.{◌≡◌, drop, max, ◌<◌}
use Rattle.search_core.specs.Order.{greatest}
use Rattle.search_core.proofs.named.hands_for.Given as goal

abbrev pub invariant-loop-hand : goal.invariant-loop-hand
invariant-loop-hand l = (max l.greatest (greatest (drop l.hand-index l.order)) ≡ greatest l.order) × (l.greatest < 64)
