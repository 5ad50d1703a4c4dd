use Rattle.fixed_angle.proofs.Words.{div_fits, div_code}
use Rattle.fixed_angle.proofs.fixed.fixed_div.Goals as goal

pub overflow_cast-result : goal.overflow_cast-result
overflow_cast-result c =
    div_fits c.args.a c.args.b c.from.result c.from-else-unsigned_abs.result c.unsigned_abs.result c.unsigned_abs-2.result c.ranges.a c.ranges.b c.from.ensures c.from-else-unsigned_abs.ensures c.unsigned_abs.ensures.value c.unsigned_abs-2.ensures.value c.if-unsigned_abs.false

pub returns-else-unsigned_abs : goal.returns-else-unsigned_abs
returns-else-unsigned_abs c =
    div_code c.args.a c.args.b c.from.result c.from-else-unsigned_abs.result c.unsigned_abs.result c.unsigned_abs-2.result c.ranges.a c.ranges.b c.from.ensures c.from-else-unsigned_abs.ensures c.unsigned_abs.ensures.value c.unsigned_abs-2.ensures.value c.if-unsigned_abs.false
