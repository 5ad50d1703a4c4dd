-- The lumps of a map: ten entries behind the one that is the map's label.
use Rattle.std.specs.Prelude.{◌≡◌, ◌≢◌, ◌↔◌, ◌⊎◌, ℕ, ◌+◌, ◌/◌, ◌%◌, ◌<◌, ◌≤◌, Bool, true, false, IsTrue, List, [], ◌∷◌, ◌++◌, length, map, codes, All}
use Rattle.std.specs.List.{range_with_len}
use Rattle.fixed_angle.specs.FirstFault.{Condition, for_each}
use Rattle.wad_lumps.specs.declared.fault.WadFault.{WadFault}
use Rattle.wad_lumps.specs.declared.fault.WadFault.TheVariants.{NoMap, LumpRange}
use Rattle.wad_lumps.specs.declared.map.MapSpans.{MapSpans}
use Rattle.wad_lumps.specs.Directory.{entry_count, span_of, name_of, LiesIn, HasLump}

-- `MAPnn` with two digits, and `ExMy`; a name is eight bytes, filled up with zeros
abbrev pub two_digit_label : ℕ → List ℕ
two_digit_label map = 77 ∷ 65 ∷ 80 ∷ (48 + map / 10) ∷ (48 + map % 10) ∷ 0 ∷ 0 ∷ 0 ∷ []

abbrev pub episode_label : ℕ → ℕ → List ℕ
episode_label episode map = 69 ∷ (48 + episode) ∷ 77 ∷ (48 + map) ∷ 0 ∷ 0 ∷ 0 ∷ 0 ∷ []

-- no entry has the name
abbrev pub IsAbsent : List ℕ → List ℕ → Type 0
IsAbsent w name = (k : ℕ) → k < entry_count w → name_of w k ≢ name

-- the entry has the name, and no later one has it
pub record IsLast (w name : List ℕ) (i : ℕ) : Type 0 where
  pub there : i < entry_count w
  pub named : name_of w i ≡ name
  pub last : (k : ℕ) → i < k → k < entry_count w → name_of w k ≢ name

-- The entry is the map's label, and whether it is of the form with an episode: `MAPnn` goes before `ExMy`,
-- which maps up to 9 have.
abbrev pub IsLabel : List ℕ → ℕ → ℕ → Bool → ℕ → Type 0
IsLabel w episode map false i = IsLast w (two_digit_label map) i
IsLabel w episode map true i = IsAbsent w (two_digit_label map) × (map ≤ 9) × IsLast w (episode_label episode map) i

-- what has to hold for a map, in the order in which it is judged: it has a label, and then each of the ten lumps
-- behind the label is there, the number of the first that is missing being the fault
abbrev pub map_lump_check : List ℕ → ℕ → ℕ → ℕ → List (Condition WadFault)
map_lump_check w episode map k = record { holds = (form : Bool) (label : ℕ) → IsLabel w episode map form label → HasLump w (label + (k + 1)); fault = LumpRange (k + 1) } ∷ []

unfoldable pub map_conditions : List ℕ → ℕ → ℕ → List (Condition WadFault)
map_conditions w episode map =
    record { holds = (form : Bool) × ((label : ℕ) × IsLabel w episode map form label); fault = NoMap }
    ∷ for_each 10 (map_lump_check w episode map)

-- the same for the lumps behind a known label
abbrev pub lump_check : List ℕ → ℕ → ℕ → List (Condition WadFault)
lump_check w label k = record { holds = HasLump w (label + (k + 1)); fault = LumpRange (k + 1) } ∷ []

unfoldable pub lump_conditions : List ℕ → ℕ → List (Condition WadFault)
lump_conditions w label = for_each 10 (lump_check w label)

-- the spans of the ten entries behind the label
abbrev pub lump_spans : List ℕ → ℕ → List (ℕ × ℕ)
lump_spans w label = map (λ e. span_of w (label + e)) (range_with_len 1 10)

-- the first lump is named `TEXTMAP`, or an eleventh is named `BEHAVIOR`: the map is of a later form
abbrev pub IsOtherForm : List ℕ → ℕ → Type 0
IsOtherForm w label = (name_of w (label + 1) ≡ codes "TEXTMAP" ++ 0 ∷ []) ⊎ ((label + 11 < entry_count w) × (name_of w (label + 11) ≡ codes "BEHAVIOR"))

-- what is told of a map is what the directory says of it
pub record IsMap (w : List ℕ) (episode map : ℕ) (found : MapSpans) : Type 0 where
  pub label : IsLabel w episode map found.episode_form found.label
  pub spans : found.spans.items ≡ lump_spans w found.label
  pub other_form : IsTrue found.other_form ↔ IsOtherForm w found.label

-- ten spans, each in the bytes
pub record AreSpans (w : List ℕ) (spans : List (ℕ × ℕ)) : Type 0 where
  pub ten : length spans ≡ 10
  pub lie : All (LiesIn w) spans
