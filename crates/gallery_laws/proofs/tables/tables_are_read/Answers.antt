use Rattle.gallery_laws.proofs.Filed.{tables_read}
use Rattle.gallery_laws.proofs.tables.tables_are_read.Goals as goal

pub returns : goal.returns
returns c = tables_read
