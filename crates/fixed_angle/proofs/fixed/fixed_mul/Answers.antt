use Rattle.fixed_angle.proofs.Words.{mul_code}
use Rattle.fixed_angle.proofs.fixed.fixed_mul.Goals as goal

pub returns : goal.returns
returns c =
    mul_code c.args.a c.args.b c.from.result c.from-2.result c.low_word.result c.ranges.a c.ranges.b c.from.ensures c.from-2.ensures (record { sfits = c.low_word.type_inv }) c.low_word.ensures
