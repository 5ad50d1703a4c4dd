use Rattle.brute_targets.proofs.LineBits.{has_bit-one}
use Rattle.brute_targets.proofs.bits.line_bit.Goals as goal

pub returns-then-acts : goal.returns-then-acts
returns-then-acts c j = rw c.if-acts.true (has_bit-one c.args.i j c.requires)
