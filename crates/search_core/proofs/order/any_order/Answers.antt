use Rattle.search_core.specs.Machine.{is_in, run, opening}
use Rattle.search_core.proofs.Steps.{over-first}
use Rattle.search_core.proofs.Runs.{opens, in_hands, fits-run, fits-opening, count-run, runs_along}
use Rattle.search_core.proofs.order.any_order.Goals as goal

pub returns-clause-known : goal.returns-clause-known
returns-clause-known c count block hands meets order search within =
    let fits = fits-run meets order (opening count block hands) (opens count block hands meets search) (in_hands count block hands order within) (fits-opening count block hands meets search.meets) in
    rw count-run at fits.least

pub returns-clause-first : goal.returns-clause-first
returns-clause-first c count block hands meets order search within over =
    let fits = fits-run meets order (opening count block hands) (opens count block hands meets search) (in_hands count block hands order within) (fits-opening count block hands meets search.meets) in
    let along = runs_along (is_in meets) order (opening count block hands) (opens count block hands meets search) (in_hands count block hands order within) in
    rw count-run at (over-first (run (is_in meets) (opening count block hands) order) meets along.sound over fits)
