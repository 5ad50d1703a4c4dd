-- Arithmetic on 32-bit numbers, over whole numbers. A fixed-point number n stands for n / 65536.
use Rattle.std.specs.Prelude.{ℕ, ◌+◌, ◌-◌, ◌*◌, ◌/◌, ◌%◌, min, Bool, ◌&&◌, ◌||◌, not, ℤ, pos, negsuc, ◌*ℤ◌, unsigned_abs, int_div, nat_le, nat_lt, if◌then◌else◌}
use Rattle.std.specs.Int.{w32, int_wrap, int_div_euclid, is_negative}

-- what is left of a whole number in 32 signed bits: the number from -2^31 to 2^31 - 1 that differs from it
-- by a multiple of 2^32
abbrev pub wrap32 : ℤ → ℤ
wrap32 n = int_wrap w32 n

-- how many whole units of 65536 a number has, rounded down
abbrev pub units_of : ℤ → ℤ
units_of n = int_div_euclid n (pos 65536)

-- the product of two fixed-point numbers, rounded down and wrapped
abbrev pub mul : ℤ → ℤ → ℤ
mul a b = wrap32 (units_of (a *ℤ b))

-- the greatest 32-bit number, or the least where just one of two signs is negative
abbrev pub far_end : Bool → Bool → ℤ
far_end a_negative b_negative = if (a_negative && not b_negative) || (not a_negative && b_negative) then negsuc 2147483647 else pos 2147483647

-- the quotient of two fixed-point numbers, rounded toward zero; where it would not fit, the end on its side
abbrev pub div : ℤ → ℤ → ℤ
div a b = if nat_le (unsigned_abs b) (unsigned_abs a / 16384) then far_end (is_negative a) (is_negative b) else int_div (a *ℤ pos 65536) b

-- The place in the table of arcs for the slope n / d of an eighth of a turn, of which 2048 is the last. n is
-- shifted in 32 bits.
abbrev pub slope : ℕ → ℕ → ℕ
slope n d = if nat_lt d 512 then 2048 else min 2048 (n * 8 % 4294967296 / (d / 256))

-- about the length of the way (dx, dy): the two lengths together, less half of the lesser one
abbrev pub aprox : ℤ → ℤ → ℤ
aprox dx dy = wrap32 (pos (unsigned_abs dx + unsigned_abs dy - min (unsigned_abs dx) (unsigned_abs dy) / 2))
