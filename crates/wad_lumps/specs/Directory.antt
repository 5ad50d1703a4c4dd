-- A WAD file: twelve bytes of head, and a directory of named spans somewhere in the file.
use Rattle.std.specs.Prelude.{ℕ, ◌+◌, ◌*◌, ◌^◌, ◌<◌, ◌≤◌, ◌||◌, IsTrue, List, [], ◌∷◌, length, take, drop, codes, nat_eq}
use Rattle.std.specs.List.{starts_with}
use Rattle.fixed_angle.specs.FirstFault.{Condition}
use Rattle.wad_lumps.specs.declared.fault.WadFault.{WadFault}
use Rattle.wad_lumps.specs.declared.fault.WadFault.TheVariants.{WadHead, WadDir}
use Rattle.wad_lumps.specs.Spelled.{long_at}

-- a signed number of 32 bits, read as unsigned, that is not negative
abbrev pub IsNonNegative : ℕ → Type 0
IsNonNegative n = n < 2 ^ 31

-- how many entries the directory has, and where it begins
abbrev pub entry_count : List ℕ → ℕ
entry_count w = long_at w 4

abbrev pub directory_start : List ℕ → ℕ
directory_start w = long_at w 8

-- twelve bytes: the letters of a whole game or of a patch, and two numbers that are not negative
pub record HasHead (w : List ℕ) : Type 0 where
  pub long : 12 ≤ length w
  pub letters : IsTrue (starts_with nat_eq w (codes "IWAD") || starts_with nat_eq w (codes "PWAD"))
  pub count : IsNonNegative (entry_count w)
  pub start : IsNonNegative (directory_start w)

-- the directory, of 16 bytes an entry, lies in the file
abbrev pub HasDirectory : List ℕ → Type 0
HasDirectory w = directory_start w + 16 * entry_count w ≤ length w

-- what has to hold of the bytes of a WAD file
pub record IsWad (w : List ℕ) : Type 0 where
  pub head : HasHead w
  pub directory : HasDirectory w

-- the same in the order in which it is judged, with the fault of each
abbrev pub file_conditions : List ℕ → List (Condition WadFault)
file_conditions w = record { holds = HasHead w; fault = WadHead } ∷ record { holds = HasDirectory w; fault = WadDir } ∷ []

-- where entry i stands
abbrev pub entry_at : List ℕ → ℕ → ℕ
entry_at w i = directory_start w + 16 * i

-- the place of an entry's lump in the file, and its length in bytes
abbrev pub span_of : List ℕ → ℕ → ℕ × ℕ
span_of w i = (long_at w (entry_at w i), long_at w (entry_at w i + 4))

-- the eight bytes of an entry's name
abbrev pub name_of : List ℕ → ℕ → List ℕ
name_of w i = take 8 (drop (entry_at w i + 8) w)

-- a span lies in the bytes, also where it is empty
abbrev pub LiesIn : List ℕ → ℕ × ℕ → Type 0
LiesIn w span = span.0 + span.1 ≤ length w

-- the entry is there, and its lump lies in the file: its place and length are signed
pub record HasLump (w : List ℕ) (i : ℕ) : Type 0 where
  pub there : i < entry_count w
  pub place : IsNonNegative (span_of w i).0
  pub size : IsNonNegative (span_of w i).1
  pub lies : LiesIn w (span_of w i)
