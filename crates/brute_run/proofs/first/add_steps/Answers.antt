use Rattle.doom_edge.specs.Counts.{raised-at_least}
use Rattle.std.proofs.Common.{arith}
use Rattle.brute_run.proofs.first.add_steps.Goals as goal

pub returns-clause-tics_never_fall : goal.returns-clause-tics_never_fall
returns-clause-tics_never_fall c = omega (arith, raised-at_least c.args.steps.now.tics c.args.own.tics, c.add.ensures.tics)

pub returns-clause-pages_never_fall : goal.returns-clause-pages_never_fall
returns-clause-pages_never_fall c = omega (arith, raised-at_least c.args.steps.now.pages c.args.own.pages, c.add.ensures.pages)
