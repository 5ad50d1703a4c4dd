use Rattle.std.proofs.Common.{◌∙◌, w32}
use Rattle.std.specs.Int.{w64}
use Rattle.std.proofs.lemmas.Int.{to_z-of_z}
use Rattle.fixed_angle.proofs.Words.{low_word_is}
use Rattle.fixed_angle.proofs.fixed.low_word.Goals as goal

pub returns : goal.returns
returns c =
    to_z-of_z w32 c.cast_signed.result (record { sfits = c.cast_signed.type_inv })
    ∙ (c.cast_signed.ensures ∙ rw (c.cast_unsigned.ensures, to_z-of_z w64 c.args.number c.ranges.number) (low_word_is c.args.number c.ranges.number))
