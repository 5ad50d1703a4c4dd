use Rattle.std.specs.Arc.{arc_value}
use Rattle.page_store.proofs.store.Store.clear.Goals as goal

pub invariant_of-self : goal.invariant_of-self
invariant_of-self g c = c.clear.ensures.over (arc_value c.self.inside.base).items
