-- Line bits.
use Rattle.std.specs.Prelude.{ℕ, Bool, nat_eq}
use Rattle.std.specs.Int.{bit_at}

-- bit i of a number is set
abbrev pub has_bit : ℕ → ℕ → Bool
has_bit bits i = nat_eq (bit_at bits i) 1
