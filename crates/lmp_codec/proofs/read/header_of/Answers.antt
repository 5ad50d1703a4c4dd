use Rattle.std.proofs.Common.{arith, refl, ◌<◌, ◌≤◌, ◌≡◌, length, take}
use Rattle.lmp_codec.proofs.Fronts.{header_cut}
use Rattle.lmp_codec.proofs.Verdicts.{front_valid}
use Rattle.lmp_codec.proofs.read.header_of.Goals as goal

pub from_bytes-requires : goal.from_bytes-requires
from_bytes-requires c =
    let chunk : c.in-Some.bytes.now ≡ take 13 c.args.text.now = c.in-Some.ensures.cases.same in
    let whole : 13 ≤ length c.args.text.now = c.in-Some.ensures.cases.enough in
    rw chunk (front_valid c.args.text.now whole (λ k h inside. c.loop-place.invariant k (omega arith)))

pub returns-in-None-clause-fault : goal.returns-in-None-clause-fault
returns-in-None-clause-fault c =
    let cut : length c.args.text.now < 13 = c.in-None.ensures.cases in
    (refl, header_cut c.args.text.now cut (λ k h inside. c.loop-place.invariant k (omega arith)))
