use Rattle.search_core.specs.contracts.machine.Core.{the_view}
use Rattle.search_core.proofs.Steps.{ends_first, ends_covered}
use Rattle.search_core.proofs.machine.Core.least.Goals as goal

pub returns-clause-first : goal.returns-clause-first
returns-clause-first c meets = ends_first c.args.self.now (the_view c.self.inside) meets c.self.view_is c.self.invariant

pub returns-clause-tried : goal.returns-clause-tried
returns-clause-tried c left = ends_covered c.args.self.now (the_view c.self.inside) left c.self.view_is c.self.invariant
