use Rattle.std.proofs.Common.{refl, sym, arith}
use Rattle.block_walk.proofs.Bits.{bit_is, bit_past}
use Rattle.block_walk.proofs.marks.is_marked.Goals as goal

pub returns-then-place-marks : goal.returns-then-place-marks
returns-then-place-marks c = sym (bit_past c.args.marks.now c.args.at (omega arith))

pub returns : goal.returns
returns c = bit_is c.args.marks.now c.args.at _ refl
