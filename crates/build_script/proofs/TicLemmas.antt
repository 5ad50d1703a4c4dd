-- The tic that the code makes of four numbers.
use Rattle.std.proofs.Common.{◌≡◌, ◌∙◌, ap, ℕ, Bool, ℤ, pos, negsuc, ◌≤ℤ◌, arith, to_z, of_z, w8, w32, w64}
use Rattle.std.proofs.lemmas.Int.{ints}
use Rattle.lmp_codec.specs.Turns.{turn_of}
use Rattle.lmp_codec.specs.Tics.{tic_of}

signed_byte : (x : ℤ) → negsuc 127 ≤ℤ x → x ≤ℤ pos 127 → to_z w8 (of_z w8 (to_z w64 (of_z w64 x))) ≡ x
signed_byte x least greatest = omega (arith, ints)

passed_turn : (x : ℤ) → negsuc 32767 ≤ℤ x → x ≤ℤ pos 65535 → to_z w32 (of_z w32 (to_z w64 (of_z w64 x))) ≡ x
passed_turn x least greatest = omega (arith, ints)

pub made_tic : (long : Bool) (forward side turn : ℤ) (made buttons same : ℕ)
    → negsuc 126 ≤ℤ forward → forward ≤ℤ pos 127 → negsuc 127 ≤ℤ side → side ≤ℤ pos 127 → negsuc 32767 ≤ℤ turn → turn ≤ℤ pos 65535
    → made ≡ turn_of long (to_z w32 (of_z w32 (to_z w64 (of_z w64 turn)))) → buttons ≡ same
    → tic_of (to_z w8 (of_z w8 (to_z w64 (of_z w64 forward)))) (to_z w8 (of_z w8 (to_z w64 (of_z w64 side)))) made buttons ≡ tic_of forward side (turn_of long turn) same
made_tic long forward side turn made buttons same f_least f_greatest s_least s_greatest t_least t_greatest is_turn is_same =
    ap (λ (x : ℤ). tic_of x (to_z w8 (of_z w8 (to_z w64 (of_z w64 side)))) made buttons) (signed_byte forward (omega (arith, ints)) f_greatest)
    ∙ ap (λ (x : ℤ). tic_of forward x made buttons) (signed_byte side s_least s_greatest)
    ∙ ap (λ (x : ℕ). tic_of forward side x buttons) (is_turn ∙ ap (turn_of long) (passed_turn turn t_least t_greatest))
    ∙ ap (λ (x : ℕ). tic_of forward side (turn_of long turn) x) is_same
