-- The code's angle is that of the definition.
use Rattle.std.proofs.Common.{◌≡◌, ◌*◌, ◌%◌, ℤ, pos, ◌*ℤ◌, FitsSigned, w32, ap, ◌∙◌, arith}
use Rattle.std.specs.Prelude.{int_div}
use Rattle.std.specs.Int.{cast_signed, cast_unsigned, int_wrap}
use Rattle.std.proofs.lemmas.Int.{quot_fits, wrapping_mul_onto, to_z-of_z}
use Rattle.std.proofs.Math.Facts.{Fits-of_z, sfits_lit}
use Rattle.level_start.specs.Spawns.{start_angle}

pub turned_by : (degrees : ℤ) → FitsSigned w32 degrees → cast_unsigned w32 (cast_signed w32 (cast_unsigned w32 (int_div degrees (pos 45)) * 536870912 % 4294967296)) ≡ start_angle degrees
turned_by degrees fits =
    let eighths : ℤ = int_div degrees (pos 45) in
    let quotient : FitsSigned w32 eighths = quot_fits w32 degrees (pos 45) fits (omega arith) in
    ap (cast_unsigned w32) (
    wrapping_mul_onto w32 (cast_unsigned w32 eighths) (pos 536870912) (Fits-of_z quotient).fits (sfits_lit tt)
    ∙ ap (λ n. int_wrap w32 (n *ℤ pos 536870912)) (to_z-of_z w32 eighths quotient)
    )
