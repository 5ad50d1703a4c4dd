-- Numbers as a file spells them, the lowest byte first.
use Rattle.std.specs.Prelude.{ℕ, List, drop}
use Rattle.byteorder.specs.Endian.{little_number}

-- the unsigned number of 16 bits at a place
unfoldable pub word_at : List ℕ → ℕ → ℕ
word_at w place = little_number 2 (drop place w)

-- the number of 32 bits at a place, read as unsigned
unfoldable pub long_at : List ℕ → ℕ → ℕ
long_at w place = little_number 4 (drop place w)
