-- An open search, and the lines within it.
use Rattle.std.specs.Prelude.{ℕ, ◌+◌, ◌^◌, ◌≤◌, ℤ, pos, ◌≤ℤ◌, Bool, true, nat_eq, nat_le, nat_lt, int_lt, List, [], ◌∷◌, ◌++◌, length, replicate, codes, if◌then◌else◌, unsigned_abs, Result, Ok, Err, Option, Some, None}
use Rattle.std.specs.Str.{bytes_eq}
use Rattle.lmp_codec.specs.Turns.{turn_count}
use Rattle.brute_ranges.specs.declared.ranges.Range.{Range}
use Rattle.brute_ranges.specs.declared.ranges.TicRanges.{TicRanges}
use Rattle.brute_ranges.specs.Tics.{width, IsWithin}
use Rattle.brute_ranges.specs.Space.{Ranges, ranges_with, all_sequences}
use Rattle.brute_targets.specs.declared.want.Want.{Want}
use Rattle.build_script.specs.declared.numbers.Bounds.{Bounds}
use Rattle.build_script.specs.declared.fault.Kind.{Kind}
use Rattle.build_script.specs.declared.fault.Kind.TheVariants as kind
use Rattle.build_script.specs.declared.names.Axis.{Axis}
use Rattle.build_script.specs.declared.names.Axis.TheVariants.{Forward, Side, Turn, Using}
use Rattle.build_script.specs.declared.names.Inner.{Inner}
use Rattle.build_script.specs.declared.names.Inner.TheVariants as names
use Rattle.build_script.specs.declared.search.Chosen.{Chosen}
use Rattle.build_script.specs.declared.search.Chosen.TheVariants as chosen
use Rattle.build_script.specs.declared.within.Inside.{Inside}
use Rattle.build_script.specs.declared.within.Inside.TheVariants.{Nothing, Narrows, Adds, Goes}
use Rattle.build_script.specs.Words.{axis_of, inner_of}
use Rattle.build_script.specs.Numbers.{number_within}
use Rattle.build_script.specs.Steps.{◌>>=◌, next_number, next_known, complete, forward_bounds, side_bounds, turn_bounds, use_bounds, tic_bounds}
use Rattle.build_script.specs.Targets.{want_in}
use Rattle.build_script.specs.Commands.{is_comment}
use Rattle.build_script.specs.Opened.{Opened}

-- ---- a range

-- the bounds of a range on an axis, in a long or a short demo
abbrev pub axis_bounds : Bool → Axis → Bounds
axis_bounds long Forward = forward_bounds
axis_bounds long Side = side_bounds
axis_bounds long Turn = turn_bounds long
axis_bounds long Using = use_bounds

-- The range of two numbers, where the second isn't below the first, and no range has more numbers than a circle has
-- turns. (Only a range of turns can have more.)
abbrev pub range_of : Bool → ℤ → ℤ → Result Range Kind
range_of long low high =
    if int_lt high low then Err kind.Range
    else if nat_lt (turn_count long) (width (record { low = low; high = high })) then Err kind.Range
    else Ok (record { low = low; high = high })

-- the range that the next two words spell on an axis, and the words after them
abbrev pub next_range : Bool → Axis → List (List ℕ) → Result (Range × List (List ℕ)) Kind
next_range long axis words = do
  low ← next_number (axis_bounds long axis) words
  high ← next_number (axis_bounds long axis) low.1
  range_of long low.0 high.0 >>= λ range. Ok (range, high.1)

-- the number of one of so many tics
abbrev pub tic_number : ℕ → List ℕ → Result ℕ Kind
tic_number depth word = number_within (tic_bounds depth) word >>= λ number. Ok (unsigned_abs number)

-- the tics that the next word chooses of so many: one by its number, counted from 1, or `all`
abbrev pub next_chosen : ℕ → List (List ℕ) → Result (Chosen × List (List ℕ)) Kind
next_chosen depth [] = Err kind.Missing
next_chosen depth (word ∷ rest) =
    if bytes_eq word (codes "all") then Ok (chosen.Every, rest)
    else tic_number depth word >>= λ number. Ok (chosen.One number, rest)

-- ---- the lines

-- a range for some of so many tics
abbrev pub narrowing_in : ℕ → Bool → List (List ℕ) → Result Inside Kind
narrowing_in depth long words = do
  tics ← next_chosen depth words
  axis ← next_known axis_of tics.1
  range ← next_range long axis.0 axis.1
  complete (Narrows tics.0 axis.0 range.0) range.1

-- what a name says with the words after it, in a search of so many tics
abbrev pub inner_named : ℕ → Bool → Option Inner → List (List ℕ) → Result Inside Kind
inner_named depth long None words = Err kind.Word
inner_named depth long (Some names.Range) words = narrowing_in depth long words
inner_named depth long (Some names.Want) words = want_in words >>= (λ want. Ok (Adds want))
inner_named depth long (Some names.Go) words = complete Goes words

-- what words say within a search: nothing where there are none and in a comment
abbrev pub inside : ℕ → Bool → List (List ℕ) → Result Inside Kind
inside depth long [] = Ok Nothing
inside depth long (word ∷ rest) = if is_comment word then Ok Nothing else inner_named depth long (inner_of word) rest

-- ---- what they make of the search

-- one of the chosen tics
abbrev pub is_chosen : Chosen → ℕ → Bool
is_chosen chosen.Every number = true
is_chosen (chosen.One one) number = nat_eq number one

-- the ranges of a tic with another range on an axis
abbrev pub with_range : Axis → Range → TicRanges → TicRanges
with_range Forward range ranges = record ranges { forward = range }
with_range Side range ranges = record ranges { side = range }
with_range Turn range ranges = record ranges { turn = range }
with_range Using range ranges = record ranges { using = range }

-- the ranges of the tic with this number, with another range on an axis where it is chosen
abbrev pub narrowed_one : ℕ → Chosen → Axis → Range → TicRanges → TicRanges
narrowed_one number tics axis range ranges = if is_chosen tics number then with_range axis range ranges else ranges

-- the tics, the first of them with this number, with another range on an axis where they are chosen
abbrev pub narrowed_from : ℕ → Chosen → Axis → Range → List TicRanges → List TicRanges
narrowed_from number tics axis range [] = []
narrowed_from number tics axis range (ranges ∷ rest) =
    narrowed_one number tics axis range ranges ∷ narrowed_from (number + 1) tics axis range rest

abbrev pub narrowed : Chosen → Axis → Range → List TicRanges → List TicRanges
narrowed tics axis range all = narrowed_from 1 tics axis range all

-- every range is 0 to 0
abbrev pub resting : TicRanges
resting = record {
  forward = record { low = pos 0; high = pos 0 };
  side = record { low = pos 0; high = pos 0 };
  turn = record { low = pos 0; high = pos 0 };
  using = record { low = pos 0; high = pos 0 };
}

-- a search of so many tics, opened at a line
abbrev pub opened : ℕ → ℕ → Bool → Opened
opened line depth long = record { line = line; ranges = ranges_with (replicate depth resting) long; wants = [] }

abbrev pub with_tics : Opened → List TicRanges → Opened
with_tics search tics = record search { ranges = ranges_with tics search.ranges.long }

abbrev pub with_want : Opened → Want → Opened
with_want search want = record search { wants = search.wants ++ want ∷ [] }

-- a search has no more targets than this
abbrev pub most_wants : ℕ
most_wants = 16

-- no more sequences than a search may have
abbrev pub is_space : Ranges → Bool
is_space ranges = nat_le (length (all_sequences ranges)) (2 ^ 40)

-- ---- what holds of what they say

-- a range that a tic of this demo may have on an axis
pub record IsRangeOn (long : Bool) (axis : Axis) (range : Range) : Type 0 where
  pub bounds : IsWithin (axis_bounds long axis).least (axis_bounds long axis).greatest range
  pub few : width range ≤ turn_count long
  pub filled : range.low ≤ℤ range.high

abbrev pub IsSoundInside : Bool → Inside → Type 0
IsSoundInside long (Narrows tics axis range) = IsRangeOn long axis range
IsSoundInside long inside = Unit {0}
