use Rattle.gallery_laws.proofs.Spelt.{demo_read, tics_counted}
use Rattle.gallery_laws.proofs.demo.demo_is_read.Goals as goal

pub returns-clause-demo : goal.returns-clause-demo
returns-clause-demo c = demo_read

pub returns-clause-count : goal.returns-clause-count
returns-clause-count c = tics_counted
