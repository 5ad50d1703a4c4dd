-- The play tables, and what they answer.
use Rattle.std.specs.Prelude.{◌≡◌, ◌≢◌, ◌==◌, ℕ, ◌+◌, ◌/◌, ◌<◌, ℤ, pos, List, length, Option, find, slice_index, slice_index_or}
use Rattle.fixed_angle.specs.declared.kind.Kind.{Kind}

-- The sines of a turn and a quarter, 8192 to a turn; the arcs of the slopes from 0 to 1 in steps of 1/2048;
-- the random numbers; and the kinds of things in the order of the file.
pub record Tables : Type 0 where
  pub sines : List ℤ
  pub arcs : List ℕ
  pub draws : List ℕ
  pub kinds : List Kind

abbrev pub no_kind : Kind
no_kind = record { number = 0; flags = 0; radius = pos 0; height = pos 0; first = pos 0 }

-- the number of a kind, by the kind's place
abbrev pub kind_number : List Kind → ℕ → ℕ
kind_number kinds i = (slice_index_or kinds i no_kind).number

-- no kind before this one has its number
abbrev pub IsNew : List Kind → ℕ → Type 0
IsNew kinds i = (k : ℕ) → k < i → kind_number kinds k ≢ kind_number kinds i

-- the lists have their lengths, and no two kinds have one number
pub record AreTables (tables : Tables) : Type 0 where
  pub sines : length tables.sines ≡ 10240
  pub arcs : length tables.arcs ≡ 2049
  pub draws : length tables.draws ≡ 256
  pub kinds : (i : ℕ) → i < length tables.kinds → IsNew tables.kinds i

-- the sine of an angle, by its upper 13 bits
abbrev pub sine_of : Tables → ℕ → ℤ
sine_of tables angle = slice_index_or tables.sines (angle / 524288) (pos 0)

-- the cosine: the sine a quarter of a turn further on
abbrev pub cosine_of : Tables → ℕ → ℤ
cosine_of tables angle = slice_index_or tables.sines (angle / 524288 + 2048) (pos 0)

-- the angle whose slope is `slope / 2048`
abbrev pub arc_of : Tables → ℕ → ℕ
arc_of tables slope = slice_index tables.arcs slope

-- the random number with an index
abbrev pub draw_of : Tables → ℕ → ℕ
draw_of tables index = slice_index tables.draws index

-- the first kind with a number
abbrev pub kind_with : Tables → ℕ → Option Kind
kind_with tables number = find (λ kind. kind.number == number) tables.kinds
