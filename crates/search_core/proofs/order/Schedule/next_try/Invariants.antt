use Rattle.search_core.specs.Machine.{work}
use Rattle.search_core.specs.Keeps.{Carries}
use Rattle.search_core.proofs.order.Schedule.next_try.Given as goal

abbrev pub invariant-loop-self : goal.invariant-loop-self
invariant-loop-self l = Carries l.fn.self l.self

abbrev pub decreases-loop-self : goal.decreases-loop-self
decreases-loop-self l = work l.self.core
