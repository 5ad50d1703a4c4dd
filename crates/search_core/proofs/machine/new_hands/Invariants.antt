use Rattle.std.proofs.Common.{◌≡◌, replicate}
use Rattle.search_core.specs.Hand.{fresh}
use Rattle.search_core.proofs.machine.new_hands.Given as goal

abbrev pub invariant-loop : goal.invariant-loop
invariant-loop l = l.made.items ≡ replicate l.counter (fresh l.count l.block)
