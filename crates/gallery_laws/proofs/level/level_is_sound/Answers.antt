use Rattle.gallery_gen.specs.Gallery.{wad_bytes}
use Rattle.gallery_laws.proofs.Read.{level_reads}
use Rattle.gallery_laws.proofs.Galleries.{gallery_reads}
use Rattle.gallery_laws.proofs.level.level_is_sound.Goals as goal

pub returns : goal.returns
returns c = λ number found is. level_reads (wad_bytes number) found (gallery_reads number) is
