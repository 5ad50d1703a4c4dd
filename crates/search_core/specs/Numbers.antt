-- The numbers of a search, in blocks.
use Rattle.std.specs.Prelude.{ℕ, zero, suc, ◌+◌, List, slice_get, unwrap_or}
use Rattle.std.specs.Int.{div_ceil}

-- how many blocks the numbers below the count fill, the last one maybe in part
abbrev pub block_count : ℕ → ℕ → ℕ
block_count count block = div_ceil count block

-- the first number that meets, of those that rise, or the count where none does
abbrev pub first_of : ℕ → List ℕ → ℕ
first_of count meets = unwrap_or (slice_get meets 0) count

-- f of each number below n, added up
abbrev pub sum_below : (ℕ → ℕ) → ℕ → ℕ
sum_below f zero = 0
sum_below f (suc n) = sum_below f n + f n
