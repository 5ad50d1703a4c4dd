use Rattle.std.proofs.Common.{◌≡◌, refl, rules, codes, arith}
use Rattle.std.proofs.lemmas.Slice.Eq.{text_from_reads}
use Rattle.build_script.proofs.names.axis_of.Goals as goal

pub returns-in-forward : goal.returns-in-forward
returns-in-forward c =
    let text : c.args.word.now ≡ codes "forward" = text_from_reads c.args.word.now (codes "forward") (omega arith) (search rules) in
    rw text refl
