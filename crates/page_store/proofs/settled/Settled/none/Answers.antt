use Rattle.std.proofs.Common.{length, ap}
use Rattle.page_store.specs.Under.{under, AreSettled}
use Rattle.page_store.proofs.Pieces.{none_under, none_tabled}
use Rattle.page_store.proofs.settled.Settled.none.Goals as goal

pub returns-clause-under : goal.returns-clause-under
unfolding under
returns-clause-under g c base = none_under _ base c.new.result.items (ap length c.new.ensures.items)

pub returns-clause-settled : goal.returns-clause-settled
unfolding AreSettled
returns-clause-settled g c base = none_tabled _ base c.new.result.items (ap length c.new.ensures.items)
