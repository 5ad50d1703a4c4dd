use Rattle.std.specs.Prelude.{unsigned_abs}
use Rattle.std.proofs.Common.{ap, ◌∙◌, w32}
use Rattle.std.proofs.lemmas.Int.{to_z-of_z}
use Rattle.fixed_angle.proofs.Words.{aprox_code}
use Rattle.fixed_angle.proofs.fixed.aprox_distance.Goals as goal

pub returns : goal.returns
returns c =
    to_z-of_z w32 c.cast_signed.result (record { sfits = c.cast_signed.type_inv })
    ∙ aprox_code c.args.dx c.args.dy c.cast_signed.result c.unsigned_abs-dx.result c.unsigned_abs-dy.result c.min-lesser.result c.max.result
    (c.unsigned_abs-dx.ensures.value ∙ ap unsigned_abs (to_z-of_z w32 c.args.dx c.ranges.dx))
    (c.unsigned_abs-dy.ensures.value ∙ ap unsigned_abs (to_z-of_z w32 c.args.dy c.ranges.dy))
    c.unsigned_abs-dx.ensures.bound c.unsigned_abs-dy.ensures.bound c.min-lesser.ensures c.max.ensures c.cast_signed.ensures
