use Rattle.gallery_gen.specs.Gallery.{wad_bytes}
use Rattle.gallery_laws.proofs.Read.{map_found, found_so}
use Rattle.gallery_laws.proofs.Galleries.{gallery_reads, spans_hold}
use Rattle.gallery_laws.proofs.wad.map_is_found.Goals as goal

pub returns-clause-whole : goal.returns-clause-whole
returns-clause-whole c = λ number. map_found (wad_bytes number) (gallery_reads number)

pub returns-clause-lumps : goal.returns-clause-lumps
returns-clause-lumps c = spans_hold

pub returns-clause-form : goal.returns-clause-form
returns-clause-form c = λ number found is. let so = found_so (wad_bytes number) found (gallery_reads number) is in (so.episode_form, so.other_form)
