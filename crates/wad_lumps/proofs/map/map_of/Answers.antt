use Rattle.std.proofs.Common.{None, inr}
use Rattle.std.proofs.lemmas.Result.{err_from_is_err_and}
use Rattle.wad_lumps.proofs.Labels.{first_there, map_outcome, map_fault, no_label, spans_lie}
use Rattle.wad_lumps.proofs.map.map_of.Goals as goal

pub returns-in_default-clause-fault : goal.returns-in_default-clause-fault
returns-in_default-clause-fault c = inr (no_label c.args.bytes.now c.args.episode c.args.map c.in_default.ensures)

pub returns-in_err-spans-clause-fault : goal.returns-in_err-spans-clause-fault
returns-in_err-spans-clause-fault c =
    let p = err_from_is_err_and c.from_residual.result c.from_residual.ensures.1 in
    rw (p.1, p.2) (map_fault c.args.bytes.now c.args.episode c.args.map c.in-Some.episode_form c.in-Some.label c.in_err-spans.field-0.0 c.in-Some.ensures c.in_err-spans.ensures)

pub is_other_form-requires-clause-there : goal.is_other_form-requires-clause-there
is_other_form-requires-clause-there c = first_there c.args.bytes.now c.in-Some.label c.in_ok-spans.ensures.1

pub returns-clause-spans : goal.returns-clause-spans
returns-clause-spans c = spans_lie c.args.bytes.now c.in-Some.label c.in_ok-spans.spans.items c.in_ok-spans.ensures.1 c.in_ok-spans.ensures.0

pub returns-clause-sound : goal.returns-clause-sound
returns-clause-sound c = map_outcome c.args.bytes.now c.args.episode c.args.map c.in-Some.episode_form c.in-Some.label None c.in-Some.ensures c.in_ok-spans.ensures.1
