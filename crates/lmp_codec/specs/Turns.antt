-- The turn that a number says in a demo of either version, and which numbers may say one.
use Rattle.std.specs.Prelude.{ℕ, ℤ, pos, negsuc, ◌*◌, Bool, if◌then◌else◌, unsigned_abs}
use Rattle.std.specs.Int.{int_rem_euclid}

-- how many turns a circle has: a turn has two bytes in a long demo, and one in a short one
abbrev pub turn_count : Bool → ℕ
turn_count long = if long then 65536 else 256

-- A turn may be written as a signed or as an unsigned number of its bytes, so from here (`negsuc n` is -1 - n) ..
abbrev pub least_turn : Bool → ℤ
least_turn long = if long then negsuc 32767 else negsuc 127

-- .. up to here.
abbrev pub greatest_turn : Bool → ℤ
greatest_turn long = if long then pos 65535 else pos 255

-- a number modulo another: what is left of it from 0 on, also of a number below 0
abbrev pub modulo : ℤ → ℕ → ℕ
modulo number by = unsigned_abs (int_rem_euclid number (pos by))

-- The turn that a number says, in 65,536ths of a circle. A long demo holds each of them; a short one holds 256ths alone.
abbrev pub turn_of : Bool → ℤ → ℕ
turn_of long number = if long then modulo number 65536 else 256 * modulo number 256
