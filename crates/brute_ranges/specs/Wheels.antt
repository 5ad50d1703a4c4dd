-- How a space is kept.
use Rattle.std.specs.Prelude.{◌≡◌, ℕ, ◌*◌, Bool, List, [], ◌∷◌, map}
use Rattle.brute_ranges.specs.declared.space.Wheel.{Wheel}
use Rattle.brute_ranges.specs.declared.ranges.TicRanges.{TicRanges}
use Rattle.brute_ranges.specs.Tics.{tic_count}
use Rattle.brute_ranges.specs.Space.{Ranges, ranges_with}

-- the ranges of the wheels
abbrev pub ranges_of : List Wheel → List TicRanges
ranges_of wheels = map (λ w. w.ranges) wheels

-- each wheel has its number of tics and the number of sequences of those behind it, and all have this number
abbrev pub AreWheels : Bool → List Wheel → ℕ → Type 0
AreWheels long [] count = count ≡ 1
AreWheels long (wheel ∷ rest) count = (wheel.tics ≡ tic_count long wheel.ranges) × (count ≡ wheel.tics * wheel.later) × AreWheels long rest wheel.later

-- wheels are seen as their ranges
abbrev pub seen : List Wheel → Bool → Ranges
seen wheels long = ranges_with (ranges_of wheels) long
