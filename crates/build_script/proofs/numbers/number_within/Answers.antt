use Rattle.std.proofs.Common.{rules, ◌≡◌, ◌∙◌, FitsSigned, to_z, of_z, w64, to_z-of_z}
use Rattle.build_script.proofs.NumberLemmas.{number_within-spelled}
use Rattle.build_script.proofs.numbers.number_within.Goals as goal

pub returns-in-Some-clause-value : goal.returns-in-Some-clause-value
returns-in-Some-clause-value c =
    let fits : FitsSigned w64 c.in-Some.number = search rules in
    let same : to_z w64 (of_z w64 c.in-Some.number) ≡ c.in-Some.number = to_z-of_z fits in
    rw same at c.in_bounds.ensures.value ∙ number_within-spelled c.args.bounds c.args.word.now c.in-Some.number c.in-Some.ensures
