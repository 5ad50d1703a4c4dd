-- The lines outside a search: what each command is written as, and the first fault in a line that is none.
use Rattle.std.specs.Prelude.{ℕ, ◌≡◌, ◌≤◌, Bool, true, false, ◌||◌, List, [], ◌∷◌, if◌then◌else◌, unsigned_abs, Result, Ok, Err, Option, Some, None}
use Rattle.lmp_codec.specs.declared.input.Tic.{Tic}
use Rattle.lmp_codec.specs.Turns.{turn_of}
use Rattle.lmp_codec.specs.Tics.{tic_of, HoldsTurn}
use Rattle.build_script.specs.declared.fault.Kind.{Kind}
use Rattle.build_script.specs.declared.fault.Kind.TheVariants.{Word, Missing}
use Rattle.build_script.specs.declared.commands.Command.{Command}
use Rattle.build_script.specs.declared.commands.Command.TheVariants.{Seek, Put, Insert, Delete, Cut, Repeat, Show, ShowSector, ShowKeys, ShowHealth, Go}
use Rattle.build_script.specs.declared.names.Name.{Name}
use Rattle.build_script.specs.declared.names.Name.TheVariants as names
use Rattle.build_script.specs.declared.names.Form.{Form}
use Rattle.build_script.specs.declared.names.Form.TheVariants as forms
use Rattle.build_script.specs.declared.judge.Outside.{Outside}
use Rattle.build_script.specs.declared.judge.Outside.TheVariants.{Nothing, Does, Opens}
use Rattle.build_script.specs.Words.{name_of, form_of}
use Rattle.build_script.specs.Steps.{◌>>=◌, next_number, complete, place_bounds, forward_bounds, side_bounds, turn_bounds, buttons_bounds, count_bounds, place_number_bounds, depth_bounds}
use Rattle.std.specs.List.{starts_with}
use Rattle.std.specs.Prelude.{nat_eq, codes}

-- ---- what the words after a command's name say

-- the tic of a put or an insert: forward, side, turn and buttons
abbrev pub tic_in : Bool → List (List ℕ) → Result Tic Kind
tic_in long words = do
  forward ← next_number forward_bounds words
  side ← next_number side_bounds forward.1
  turn ← next_number (turn_bounds long) side.1
  buttons ← next_number buttons_bounds turn.1
  complete (tic_of forward.0 side.0 (turn_of long turn.0) (unsigned_abs buttons.0)) buttons.1

-- the place of a seek
abbrev pub place_in : List (List ℕ) → Result ℕ Kind
place_in words = do
  place ← next_number place_bounds words
  complete (unsigned_abs place.0) place.1

-- the count of a repeat
abbrev pub count_in : List (List ℕ) → Result ℕ Kind
count_in words = do
  count ← next_number count_bounds words
  complete (unsigned_abs count.0) count.1

-- the number of a sector or a line
abbrev pub number_in : List (List ℕ) → Result ℕ Kind
number_in words = do
  number ← next_number place_number_bounds words
  complete (unsigned_abs number.0) number.1

-- how many tics a search has
abbrev pub depth_in : List (List ℕ) → Result ℕ Kind
depth_in words = do
  depth ← next_number depth_bounds words
  complete (unsigned_abs depth.0) depth.1

-- what is shown: the player's place, or what this word names
abbrev pub shown_as : Option Form → List (List ℕ) → Result Command Kind
shown_as None words = Err Word
shown_as (Some forms.Sector) words = number_in words >>= (λ sector. Ok (ShowSector sector))
shown_as (Some forms.Keys) words = complete ShowKeys words
shown_as (Some forms.Health) words = complete ShowHealth words

abbrev pub shown_in : List (List ℕ) → Result Command Kind
shown_in [] = Ok Show
shown_in (word ∷ rest) = shown_as (form_of word) rest

-- ---- the commands by their names

-- a name that a script without worlds knows
abbrev pub is_edit : Name → Bool
is_edit names.Seek = true
is_edit names.Put = true
is_edit names.Insert = true
is_edit names.Delete = true
is_edit names.Cut = true
is_edit names.Repeat = true
is_edit names.Show = false
is_edit names.Brute = false
is_edit names.Range = false
is_edit names.Want = false
is_edit names.Go = false

-- the name, if a script with or without worlds knows it
abbrev pub known_in : Bool → Option Name → Option Name
known_in worlds None = None
known_in worlds (Some name) = if worlds || is_edit name then Some name else None

-- What a name says with the words after it, for a long or a short demo. What belongs to a search wants one that is open.
abbrev pub command_of : Bool → Name → List (List ℕ) → Result Outside Kind
command_of long names.Seek words = place_in words >>= (λ place. Ok (Does (Seek place)))
command_of long names.Put words = tic_in long words >>= (λ tic. Ok (Does (Put tic)))
command_of long names.Insert words = tic_in long words >>= (λ tic. Ok (Does (Insert tic)))
command_of long names.Delete words = complete (Does Delete) words
command_of long names.Cut words = complete (Does Cut) words
command_of long names.Repeat words = count_in words >>= (λ count. Ok (Does (Repeat count)))
command_of long names.Show words = shown_in words >>= (λ shown. Ok (Does shown))
command_of long names.Brute words = depth_in words >>= (λ depth. Ok (Opens depth))
command_of long names.Range words = Err Missing
command_of long names.Want words = Err Missing
command_of long names.Go words = Err Missing

abbrev pub named : Bool → Option Name → List (List ℕ) → Result Outside Kind
named long None words = Err Word
named long (Some name) words = command_of long name words

-- a comment begins with a #
abbrev pub is_comment : List ℕ → Bool
is_comment word = starts_with nat_eq word (codes "#")

-- What words say outside a search, in a script with or without worlds: nothing where there are none and in a comment.
abbrev pub outside : Bool → Bool → List (List ℕ) → Result Outside Kind
outside worlds long [] = Ok Nothing
outside worlds long (word ∷ rest) = if is_comment word then Ok Nothing else named long (known_in worlds (name_of word)) rest

-- ---- what holds of what they say

-- a demo of this version holds the tics that a command adds, where it adds some
abbrev pub HoldsTicOf : Bool → Command → Type 0
HoldsTicOf long (Put tic) = HoldsTurn long tic
HoldsTicOf long (Insert tic) = HoldsTurn long tic
HoldsTicOf long (Go ranges wants) = ranges.long ≡ long
HoldsTicOf long command = Unit {0}

-- the same of a line, whose search has 1 to 35 tics where it opens one
abbrev pub IsSoundOutside : Bool → Outside → Type 0
IsSoundOutside long (Does command) = HoldsTicOf long command
IsSoundOutside long (Opens depth) = (1 ≤ depth) × (depth ≤ 35)
IsSoundOutside long Nothing = Unit {0}
