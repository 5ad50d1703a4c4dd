use Rattle.std.proofs.Common.{◌≡◌, refl, rules, codes, arith}
use Rattle.std.proofs.lemmas.Slice.Eq.{text_from_reads}
use Rattle.build_script.proofs.names.form_of.Goals as goal

pub returns-in-sector : goal.returns-in-sector
returns-in-sector c =
    let text : c.args.word.now ≡ codes "sector" = text_from_reads c.args.word.now (codes "sector") (omega arith) (search rules) in
    rw text refl

pub returns-in-health : goal.returns-in-health
returns-in-health c =
    let text : c.args.word.now ≡ codes "health" = text_from_reads c.args.word.now (codes "health") (omega arith) (search rules) in
    rw text refl
