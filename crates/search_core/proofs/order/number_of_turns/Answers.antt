use Rattle.std.proofs.Common.{arith}
use Rattle.search_core.specs.Machine.{is_in, opening, work}
use Rattle.search_core.proofs.Runs.{opens, in_hands, ends_after_opening, same_events_opening, few_events, work-opening}
use Rattle.search_core.proofs.order.number_of_turns.Goals as goal

pub returns-clause-ends : goal.returns-clause-ends
returns-clause-ends c count block hands meets order search within = (work (opening count block hands), ends_after_opening count block hands meets order search within)

pub returns-clause-same : goal.returns-clause-same
returns-clause-same c count block hands meets order enough search within over = same_events_opening count block hands meets order enough search within over

pub returns-clause-few : goal.returns-clause-few
returns-clause-few c count block hands meets order search within =
    omega (arith, few_events (is_in meets) (opening count block hands) order (opens count block hands meets search) (in_hands count block hands order within), work-opening count block hands, search.count, search.few_hands)
