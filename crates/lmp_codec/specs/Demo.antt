-- What a demo is, as a relation on whole texts, and what is wrong with a text that is none.
use Rattle.std.specs.Prelude.{ℕ, ◌/◌, ◌%◌, ◌<◌, ◌≤◌, ◌^◌, ◌≡◌, ◌≢◌, ◌++◌, List, [], ◌∷◌, length, if◌then◌else◌, IsTrue, Some, Result, Ok, Err, slice_get, slice_index, FitsSigned, Bool, true, false}
use Rattle.std.specs.Int.{cast_unsigned, w8}
use Rattle.std.specs.List.{flat_map, AllByRecursion}
use Rattle.lmp_codec.specs.Header.{header_len, may_stand, is_long, IsHeader}
use Rattle.lmp_codec.specs.Tics.{HoldsTurn}
use Rattle.lmp_codec.specs.declared.input.Tic.{Tic}
use Rattle.lmp_codec.specs.declared.whole.Demo.{Demo}
use Rattle.lmp_codec.specs.declared.fault.DemoFault.{DemoFault}
use Rattle.lmp_codec.specs.declared.fault.DemoFault.TheVariants.{DemoVersion, DemoHead, DemoCut, DemoLong, Memory}

-- how many tics a demo may have
abbrev pub most_tics : ℕ
most_tics = 1000000

-- the byte that ends a demo; a tic's forward byte is never this one
abbrev pub end_byte : ℕ
end_byte = 128

-- The bytes of a tic, the two signed ones in two's complement. A long demo, of version 111, has the turn's low byte and
-- then its high byte; a short one, of version 109, has the high byte alone.
abbrev pub tic_bytes : Bool → Tic → List ℕ
tic_bytes true tic = cast_unsigned w8 tic.forward ∷ cast_unsigned w8 tic.side ∷ tic.turn % 256 ∷ tic.turn / 256 ∷ tic.buttons ∷ []
tic_bytes false tic = cast_unsigned w8 tic.forward ∷ cast_unsigned w8 tic.side ∷ tic.turn / 256 ∷ tic.buttons ∷ []

-- how many bytes a tic has
abbrev pub tic_len : Bool → ℕ
tic_len long = if long then 5 else 4

-- the bytes of tics under a header
abbrev pub spelled : List ℕ → List Tic → List ℕ
spelled header tics = flat_map (tic_bytes (is_long header)) tics

-- a demo as it is written: the header, the bytes of each tic, and the end byte
abbrev pub written : List ℕ → List Tic → List ℕ
written header tics = header ++ spelled header tics ++ end_byte ∷ []

-- The numbers of a tic fit the bytes that a demo has for them. The program's tics fit theirs, but for a turn that a short
-- demo doesn't hold; the variables of a law range over every number.
pub record FitsBytes (long : Bool) (tic : Tic) : Type 0 where
  pub forward : FitsSigned w8 tic.forward
  pub side : FitsSigned w8 tic.side
  pub turn : tic.turn < 2 ^ 16
  pub held : HoldsTurn long tic
  pub buttons : tic.buttons < 2 ^ 8

-- this header and these tics have a written form
pub record MayBeWritten (header : List ℕ) (tics : List Tic) : Type 0 where
  pub valid : IsHeader header
  pub fits : AllByRecursion (FitsBytes (is_long header)) tics
  pub within : length tics ≤ most_tics

-- the text is the written form of this header and these tics, followed by any rest
pub record IsDemo (text header : List ℕ) (tics : List Tic) : Type 0 where
  pub form : MayBeWritten header tics
  pub begins : (rest : List ℕ) × (text ≡ written header tics ++ rest)

-- the header's byte at this place is the first one that breaks its rule
pub record BreaksHeader (text : List ℕ) (place : ℕ) : Type 0 where
  pub in_header : place < header_len
  pub in_text : place < length text
  pub broken : may_stand place (slice_index text place) ≡ false
  pub first : (before : ℕ) → before < place → IsTrue (may_stand before (slice_index text before))

-- the text ends too early: it is the front of a written form, and more would have to come
pub record IsCut (text : List ℕ) : Type 0 where
  pub header : List ℕ
  pub tics : List Tic
  pub more : List ℕ
  pub form : MayBeWritten header tics
  pub missing : more ≢ []
  pub front : written header tics ≡ text ++ more

-- the text has a header, as many tics as a demo may have, and then something else than the end byte
pub record IsLong (text : List ℕ) : Type 0 where
  pub header : List ℕ
  pub tics : List Tic
  pub next : ℕ
  pub rest : List ℕ
  pub form : MayBeWritten header tics
  pub full : length tics ≡ most_tics
  pub goes_on : next ≢ end_byte
  pub front : text ≡ header ++ spelled header tics ++ next ∷ rest

-- This fault is the text's, the first one from the left. Want of memory is nobody's fault.
abbrev pub IsFault : List ℕ → DemoFault → Type 0
IsFault text (DemoVersion version) = (slice_get text 0 ≡ Some version) × (version ≢ 109) × (version ≢ 111)
IsFault text (DemoHead place) = (0 < place) × BreaksHeader text place
IsFault text (DemoCut len) = (length text ≡ len) × IsCut text
IsFault text DemoLong = IsLong text
IsFault text Memory = ⊥

-- the right verdict on a text: a demo that it is, or the fault that it has
abbrev pub IsVerdict : List ℕ → Result Demo DemoFault → Type 0
IsVerdict text (Ok demo) = IsDemo text demo.header demo.tics
IsVerdict text (Err fault) = IsFault text fault
