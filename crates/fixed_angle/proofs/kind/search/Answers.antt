use Rattle.std.proofs.Common.{rules}
use Rattle.std.proofs.lemmas.List.Sorted.{answers_always}
use Rattle.fixed_angle.specs.Tables.{no_kind}
use Rattle.fixed_angle.proofs.Numbers.{found_number, can_search, not_found}
use Rattle.fixed_angle.proofs.kind.search.Goals as goal

pub returns-in-Ok-clause-number : goal.returns-in-Ok-clause-number
returns-in-Ok-clause-number c =
    let by_number = c.in-Ok.ensures.position (λ kind. kind.number) (answers_always _ _ _ (λ f a r g called. search rules)) in
    found_number c.args.ordered.now c.in-Ok.i c.args.number no_kind (by_number no_kind)

pub returns-in-Err-clause-absent : goal.returns-in-Err-clause-absent
returns-in-Err-clause-absent c =
    let by_number = c.in-Err.ensures.position (λ kind. kind.number) (answers_always _ _ _ (λ f a r g called. search rules)) in
    not_found c.args.ordered.now c.args.number c.in-Err.field-0 (by_number (can_search c.args.ordered.now c.args.number c.requires))
