use Rattle.block_walk.proofs.Bits.{bit_set, bit_unset}
use Rattle.std.proofs.Common.{refl}
use Rattle.block_walk.proofs.marks.mark_at.Goals as goal

pub returns-clause-new : goal.returns-clause-new
returns-clause-new c = bit_unset c.args.marks.now c.args.at _ refl

pub returns-clause-marks : goal.returns-clause-marks
returns-clause-marks c = λ n. bit_set c.args.marks.now c.args.at n _ _ refl c.requires refl
