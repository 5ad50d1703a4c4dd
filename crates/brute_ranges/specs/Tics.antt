-- The tics that the ranges of one tic hold, in their order, in a long or a short demo.
use Rattle.std.specs.Prelude.{ℕ, zero, suc, ◌≤◌, ℤ, pos, negsuc, ◌+ℤ◌, ◌-ℤ◌, ◌≤ℤ◌, Bool, nat_eq, if◌then◌else◌, List, [], ◌∷◌, map, length}
use Rattle.std.specs.List.{flat_map}
use Rattle.lmp_codec.specs.declared.input.Tic.{Tic}
use Rattle.lmp_codec.specs.Turns.{turn_count, least_turn, greatest_turn, turn_of}
use Rattle.lmp_codec.specs.Tics.{tic_of}
use Rattle.brute_ranges.specs.declared.ranges.Range.{Range}
use Rattle.brute_ranges.specs.declared.ranges.TicRanges.{TicRanges}

-- a number from 0 on, 0 for one below it
abbrev pub natural : ℤ → ℕ
natural (pos n) = n
natural (negsuc n) = 0

-- how many numbers a range has
abbrev pub width : Range → ℕ
width range = natural (range.high +ℤ pos 1 -ℤ range.low)

-- so many numbers from the low one on
abbrev pub rising : ℤ → ℕ → List ℤ
rising low zero = []
rising low (suc n) = low ∷ rising (low +ℤ pos 1) n

-- the numbers of a range, rising
abbrev pub values : Range → List ℤ
values range = rising range.low (width range)

-- the use button is button 2
abbrev pub buttons_of : ℤ → ℕ
buttons_of (pos n) = if nat_eq n 1 then 2 else 0
buttons_of (negsuc n) = 0

-- the tic of a number of each range
abbrev pub tic_with : Bool → ℤ → ℤ → ℤ → ℤ → Tic
tic_with long forward side turn using = tic_of forward side (turn_of long turn) (buttons_of using)

-- the tics of these ranges: the product of forward, side, turn and use, each rising, the first of them counting most
abbrev pub tics_of : Bool → TicRanges → List Tic
tics_of long ranges =
    flat_map (λ forward. flat_map (λ side. flat_map (λ turn. map (λ using. tic_with long forward side turn using)
    (values ranges.using)) (values ranges.turn)) (values ranges.side)) (values ranges.forward)

-- how many there are
abbrev pub tic_count : Bool → TicRanges → ℕ
tic_count long ranges = length (tics_of long ranges)

-- the number is at least low and at most high
abbrev pub IsBetween : ℤ → ℤ → ℤ → Type 0
IsBetween low high n = (low ≤ℤ n) × (n ≤ℤ high)

-- both ends of a range are
abbrev pub IsWithin : ℤ → ℤ → Range → Type 0
IsWithin low high range = IsBetween low high range.low × IsBetween low high range.high

-- no range reaches beyond what a tic of this demo can hold, and no turn stands in one twice
pub record InBounds (long : Bool) (ranges : TicRanges) : Type 0 where
  pub forward : IsWithin (negsuc 126) (pos 127) ranges.forward
  pub side : IsWithin (negsuc 127) (pos 127) ranges.side
  pub turn : IsWithin (least_turn long) (greatest_turn long) ranges.turn
  pub turns : width ranges.turn ≤ turn_count long
  pub using : IsWithin (pos 0) (pos 1) ranges.using

-- each range has a number
pub record HasValues (ranges : TicRanges) : Type 0 where
  pub forward : ranges.forward.low ≤ℤ ranges.forward.high
  pub side : ranges.side.low ≤ℤ ranges.side.high
  pub turn : ranges.turn.low ≤ℤ ranges.turn.high
  pub using : ranges.using.low ≤ℤ ranges.using.high

-- the ranges of a tic that a search may have
pub record IsSound (long : Bool) (ranges : TicRanges) : Type 0 where
  pub bounds : InBounds long ranges
  pub filled : HasValues ranges
