use Rattle.std.proofs.Common.{◌≡◌, ℕ, ◌<◌, ◌≤◌, true}
use Rattle.search_core.specs.Order.{is_over}
use Rattle.search_core.proofs.machine.Core.running_from.Given as goal

abbrev pub invariant-loop-hand : goal.invariant-loop-hand
invariant-loop-hand l = (k : ℕ) → l.fn.from ≤ k → k < l.hand → is_over l.self k ≡ true
