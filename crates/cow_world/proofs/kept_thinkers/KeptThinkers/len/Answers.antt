use Rattle.std.proofs.Common.{sym}
use Rattle.page_store.specs.Over.{seen}
use Rattle.cow_world.proofs.KeptPlaces.{many_made}
use Rattle.cow_world.proofs.kept_thinkers.KeptThinkers.len.Goals as goal

pub returns : goal.returns
returns c = λ base. sym (many_made c.args.self.now.made c.args.self.now.revived.items (seen base c.args.self.now.kept))
