use Rattle.std.proofs.Common.{◌≡◌, refl, rules, codes, arith}
use Rattle.std.proofs.lemmas.Slice.Eq.{text_from_reads}
use Rattle.build_script.proofs.names.name_of.Goals as goal

pub returns-in-insert : goal.returns-in-insert
returns-in-insert c =
    let text : c.args.word.now ≡ codes "insert" = text_from_reads c.args.word.now (codes "insert") (omega arith) (search rules) in
    rw text refl

pub returns-in-delete : goal.returns-in-delete
returns-in-delete c =
    let text : c.args.word.now ≡ codes "delete" = text_from_reads c.args.word.now (codes "delete") (omega arith) (search rules) in
    rw text refl

pub returns-in-repeat : goal.returns-in-repeat
returns-in-repeat c =
    let text : c.args.word.now ≡ codes "repeat" = text_from_reads c.args.word.now (codes "repeat") (omega arith) (search rules) in
    rw text refl
