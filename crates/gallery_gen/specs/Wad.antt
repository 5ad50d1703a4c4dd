-- The file of a gallery's map: a head, the lumps one after the other, and a directory.
use Rattle.std.specs.Prelude.{ℕ, ◌+◌, List, [], ◌∷◌, ◌++◌, length, fold}
use Rattle.byteorder.specs.Endian.{little_bytes}

-- a lump: its name of eight bytes, and what is in it
abbrev pub Lump : Type 0
Lump = List ℕ × List ℕ

-- lumps behind each other, the directory of them, and how many they are
pub record Packed : Type 0 where
  pub lumps : List ℕ
  pub directory : List ℕ
  pub entries : ℕ

-- lumps begin behind the head, which has 12 bytes
abbrev pub next_offset : Packed → ℕ
next_offset packed = 12 + length packed.lumps

-- an entry of the directory: where a lump begins, how long it is, and its name
abbrev pub entry : ℕ → Lump → List ℕ
entry offset lump = little_bytes 4 offset ++ little_bytes 4 (length lump.1) ++ lump.0

-- one lump more, behind the others
abbrev pub packed_with : Packed → Lump → Packed
packed_with packed lump = record {
  lumps = packed.lumps ++ lump.1;
  directory = packed.directory ++ entry (next_offset packed) lump;
  entries = packed.entries + 1;
}

-- nothing yet
abbrev pub unpacked : Packed
unpacked = record { lumps = []; directory = []; entries = 0 }

-- the letters PWAD, the count of the entries, and where the directory begins
abbrev pub head : Packed → List ℕ
head packed = (80 ∷ 87 ∷ 65 ∷ 68 ∷ []) ++ little_bytes 4 packed.entries ++ little_bytes 4 (next_offset packed)

abbrev pub file : Packed → List ℕ
file packed = head packed ++ packed.lumps ++ packed.directory

-- the file of these lumps
abbrev pub wad_with : List Lump → List ℕ
wad_with lumps = file (fold packed_with unpacked lumps)
