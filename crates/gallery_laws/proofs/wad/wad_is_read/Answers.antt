use Rattle.gallery_laws.proofs.Galleries.{gallery_reads}
use Rattle.gallery_laws.proofs.wad.wad_is_read.Goals as goal

pub returns : goal.returns
returns c = λ number. (gallery_reads number).file
