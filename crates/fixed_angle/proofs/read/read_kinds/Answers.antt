use Rattle.std.proofs.Common.{◌≡◌, ◌+◌, ◌*◌, length, ap, ◌∙◌, List, Some, None, subst}
use Rattle.fixed_angle.specs.FirstFault.{FirstFault, for_each}
use Rattle.fixed_angle.specs.declared.kind.Kind.{Kind}
use Rattle.fixed_angle.specs.TableFile.{kind_at, kind_conditions}
use Rattle.fixed_angle.proofs.File.{length-entries, kinds_judged, cause_of, all_new}
use Rattle.fixed_angle.proofs.read.read_kinds.Goals as goal

pub kinds_fault-requires : goal.kinds_fault-requires
kinds_fault-requires c =
    let many : length c.deref.result.now ≡ c.in_ok-count.count = ap length (c.deref.ensures.value ∙ c.in_ok-kinds.ensures) ∙ length-entries (λ i. kind_at c.args.bytes.now (49420 + 16 * i)) c.in_ok-count.count in
    rw many c.in_ok-count.ensures.few

pub returns-in-Some-clause-fault : goal.returns-in-Some-clause-fault
returns-in-Some-clause-fault c =
    let read = c.deref.ensures.value ∙ c.in_ok-kinds.ensures in
    cause_of c.args.bytes.now c.in-Some.fault (kinds_judged c.args.bytes.now c.in_ok-count.count c.deref.result.now (Some c.in-Some.fault) c.in_ok-count.ensures.count read c.in_ok-count.ensures.sound (c.in-Some.ensures))

pub returns-in-None-clause-new : goal.returns-in-None-clause-new
returns-in-None-clause-new c =
    let P : List Kind → Type 0 = λ kinds. FirstFault (for_each (length kinds) (kind_conditions kinds)) None in
    all_new c.in_ok-kinds.kinds.items (subst P c.deref.ensures.value (rw c.in-None.is at c.kinds_fault.ensures))

pub returns-in-None-clause-sound : goal.returns-in-None-clause-sound
returns-in-None-clause-sound c =
    kinds_judged c.args.bytes.now c.in_ok-count.count c.deref.result.now None c.in_ok-count.ensures.count (c.deref.ensures.value ∙ c.in_ok-kinds.ensures) c.in_ok-count.ensures.sound (rw c.in-None.is at c.kinds_fault.ensures)
