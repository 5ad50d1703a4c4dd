-- The file of the play tables: what its bytes spell, and what has to hold of them. All numbers are little endian.
use Rattle.std.specs.Prelude.{◌≡◌, ℕ, ◌+◌, ◌*◌, ◌≤◌, ℤ, List, [], ◌∷◌, ◌++◌, length, take, map, codes, slice_index, Some}
use Rattle.std.specs.List.{range_with_len}
use Rattle.std.specs.Int.{w32, cast_signed}
use Rattle.fixed_angle.specs.FirstFault.{Condition, FirstFault, for_each}
use Rattle.fixed_angle.specs.declared.kind.Kind.{Kind}
use Rattle.fixed_angle.specs.declared.fault.TabFault.{TabFault}
use Rattle.fixed_angle.specs.declared.fault.TabFault.TheVariants.{TabHead, TabLength, TabActor, Memory}
use Rattle.fixed_angle.specs.Tables.{Tables, IsNew}

-- the number in two bytes, and in four
abbrev pub word_at : List ℕ → ℕ → ℕ
word_at bytes at = slice_index bytes at + 256 * slice_index bytes (at + 1)

abbrev pub long_at : List ℕ → ℕ → ℕ
long_at bytes at = word_at bytes at + 65536 * word_at bytes (at + 2)

-- the same four bytes as a signed number
abbrev pub signed_at : List ℕ → ℕ → ℤ
signed_at bytes at = cast_signed w32 (long_at bytes at)

-- what stands in n places, from place 0 on
unfoldable pub entries : {X : Type 0} → (ℕ → X) → ℕ → List X
entries read n = map read (range_with_len 0 n)

-- how many kinds the file says that it has
abbrev pub kind_count : List ℕ → ℕ
kind_count bytes = long_at bytes 4

-- the record of a kind
abbrev pub kind_at : List ℕ → ℕ → Kind
kind_at bytes at = record {
  number = word_at bytes at;
  flags = word_at bytes (at + 2);
  radius = signed_at bytes (at + 4);
  height = signed_at bytes (at + 8);
  first = signed_at bytes (at + 12);
}

abbrev pub kinds_of : List ℕ → List Kind
kinds_of bytes = entries (λ i. kind_at bytes (49420 + 16 * i)) (kind_count bytes)

-- After four letters and the number of kinds: 10240 sines, 2049 arcs, 256 random numbers of one byte, and the kinds
-- of 16 bytes.
abbrev pub tables_of : List ℕ → Tables
tables_of bytes = record {
  sines = entries (λ i. signed_at bytes (8 + 4 * i)) 10240;
  arcs = entries (λ i. long_at bytes (40968 + 4 * i)) 2049;
  draws = entries (λ i. slice_index bytes (49164 + i)) 256;
  kinds = kinds_of bytes;
}

-- the file begins with its letters and a number of kinds of at most 1024
abbrev pub head_conditions : List ℕ → List (Condition TabFault)
head_conditions bytes =
    record { holds = 8 ≤ length bytes; fault = TabHead } ∷
    (record { holds = take 4 bytes ≡ codes "PTAB"; fault = TabHead } ∷
    (record { holds = kind_count bytes ≤ 1024; fault = TabHead } ∷
    (record { holds = length bytes ≡ 49420 + 16 * kind_count bytes; fault = TabLength } ∷ [])))

-- no kind before kind i has its number
abbrev pub kind_conditions : List Kind → ℕ → List (Condition TabFault)
kind_conditions kinds i = record { holds = IsNew kinds i; fault = TabActor i } ∷ []

-- all of them, in order
abbrev pub table_conditions : List ℕ → List (Condition TabFault)
table_conditions bytes = head_conditions bytes ++ for_each (kind_count bytes) (kind_conditions (kinds_of bytes))

-- A fault that a file gets is that of the first condition which does not hold. Want of memory says nothing.
abbrev pub IsCause : List ℕ → TabFault → Type 0
IsCause bytes TabHead = FirstFault (table_conditions bytes) (Some TabHead)
IsCause bytes TabLength = FirstFault (table_conditions bytes) (Some TabLength)
IsCause bytes (TabActor i) = FirstFault (table_conditions bytes) (Some (TabActor i))
IsCause bytes Memory = Unit {0}
