-- The play tables of a gallery: straight lines in place of curves.
use Rattle.std.specs.Prelude.{ℕ, ◌+◌, ◌*◌, ◌%◌, ℤ, pos, ◌-ℤ◌, ◌+ℤ◌, nat_le, List, [], ◌∷◌, ◌++◌, if◌then◌else◌}
use Rattle.std.specs.Int.{w32, cast_unsigned}
use Rattle.std.specs.List.{flat_map, range_with_len}
use Rattle.byteorder.specs.Endian.{little_bytes}
use Rattle.gallery_gen.specs.Lumps.{word}

-- up to one at a quarter of a turn, down to minus one at three quarters, and up again
abbrev pub sine_by : ℕ → ℤ
sine_by part =
    if nat_le part 2048 then pos (32 * part)
    else if nat_le part 6144 then pos 262144 -ℤ pos (32 * part) -ℤ pos 131072
    else pos (32 * part) -ℤ pos 262144

-- a turn has 8192 parts
abbrev pub sine_at : ℕ → List ℕ
sine_at i = little_bytes 4 (cast_unsigned w32 (sine_by (i % 8192)))

unfoldable pub sines : ℕ → List ℕ
sines count = flat_map sine_at (range_with_len 0 count)

abbrev pub arc_at : ℕ → List ℕ
arc_at i = little_bytes 4 (i * 262144)

unfoldable pub arcs : ℕ → List ℕ
arcs count = flat_map arc_at (range_with_len 0 count)

abbrev pub random_at : ℕ → List ℕ
random_at i = (97 * i + 13) % 256 ∷ []

unfoldable pub random_numbers : ℕ → List ℕ
random_numbers count = flat_map random_at (range_with_len 0 count)

-- a blue key: number 5, special, of a radius of 20 units and 16 units high, whose first state takes 10 tics
abbrev pub key : List ℕ
key = word 5 ++ word 1 ++ little_bytes 4 1310720 ++ little_bytes 4 1048576 ++ little_bytes 4 10

-- the letters PTAB, one kind, the sines, the arcs, the random numbers, and the kind
unfoldable pub tables_bytes : List ℕ
tables_bytes =
    (80 ∷ 84 ∷ 65 ∷ 66 ∷ []) ++ little_bytes 4 1 ++ sines 10240 ++ arcs 2049 ++ random_numbers 256 ++ key
