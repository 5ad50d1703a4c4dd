use Rattle.gallery_laws.proofs.Galleries.{level_starts}
use Rattle.gallery_laws.proofs.level.level_starts.Goals as goal

pub returns : goal.returns
returns c = level_starts
