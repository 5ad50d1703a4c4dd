use Rattle.page_store.proofs.Pieces.{part_is}
use Rattle.page_store.proofs.part.part_of.Goals as goal

pub returns : goal.returns
returns g c = part_is c.args.base.now c.args.start c.min.result c.min-2.result c.min.ensures c.min-2.ensures
