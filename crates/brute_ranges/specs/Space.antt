-- The sequences of a search, as nested lists, and what is wrong with ranges that are none.
use Rattle.std.specs.Prelude.{◌≡◌, ◌≢◌, ℕ, ◌+◌, ◌^◌, ◌<◌, ◌≤◌, ◌⊎◌, ◌&&◌, Bool, nat_eq, if◌then◌else◌, List, [], ◌∷◌, map, take, length, All, IsSomeAnd, slice_get, slice_index_or}
use Rattle.std.specs.Ordering.{int_eq}
use Rattle.std.specs.List.{flat_map}
use Rattle.lmp_codec.specs.declared.input.Tic.{Tic}
use Rattle.brute_ranges.specs.declared.ranges.TicRanges.{TicRanges}
use Rattle.brute_ranges.specs.declared.fault.SpaceFault.{SpaceFault}
use Rattle.brute_ranges.specs.declared.fault.SpaceFault.TheVariants.{Depth, Bounds, EmptyRange, TooMany, Memory}
use Rattle.brute_ranges.specs.Tics.{tics_of, InBounds, HasValues, IsSound}

-- What a search goes through: the ranges of each of its tics, and whether their turns are those of a long demo.
pub record Ranges : Type 0 where
  pub tics : List TicRanges
  pub long : Bool

abbrev pub ranges_with : List TicRanges → Bool → Ranges
ranges_with tics long = record { tics = tics; long = long }

-- all sequences: for each tic of the first ranges, each sequence of the rest, with that tic put first
abbrev pub sequences_of : Bool → List TicRanges → List (List Tic)
sequences_of long [] = [] ∷ []
sequences_of long (ranges ∷ rest) = flat_map (λ tic. map (λ sequence. tic ∷ sequence) (sequences_of long rest)) (tics_of long ranges)

abbrev pub all_sequences : Ranges → List (List Tic)
all_sequences ranges = sequences_of ranges.long ranges.tics

-- the sequence with this number
abbrev pub sequence_at : Ranges → ℕ → List Tic
sequence_at ranges number = slice_index_or (all_sequences ranges) number []

-- a search has 1 to 35 tics
abbrev pub IsDeep : List TicRanges → Type 0
IsDeep tics = (0 < length tics) × (length tics ≤ 35)

-- the ranges of a search
pub record IsSpace (ranges : Ranges) : Type 0 where
  pub deep : IsDeep ranges.tics
  pub each : All (IsSound ranges.long) ranges.tics
  pub few : length (all_sequences ranges) ≤ 2 ^ 40

-- the ranges of the tics before this one have no fault
abbrev pub IsFaultlessBefore : ℕ → Ranges → Type 0
IsFaultlessBefore tic ranges = IsDeep ranges.tics × All (IsSound ranges.long) (take tic ranges.tics)

-- This fault is the first one of the ranges: their number first, then each tic's in order, then how many sequences they make.
abbrev pub IsFault : Ranges → SpaceFault → Type 0
IsFault ranges (Depth depth) = (length ranges.tics ≡ depth) × ((depth ≡ 0) ⊎ (35 < depth))
IsFault ranges (Bounds tic) = IsFaultlessBefore tic ranges × IsSomeAnd (slice_get ranges.tics tic) (λ r. ¬ InBounds ranges.long r)
IsFault ranges (EmptyRange tic) = IsFaultlessBefore tic ranges × IsSomeAnd (slice_get ranges.tics tic) (λ r. InBounds ranges.long r × ¬ HasValues r)
IsFault ranges TooMany = IsDeep ranges.tics × All (IsSound ranges.long) ranges.tics × (2 ^ 40 < length (all_sequences ranges))
-- want of memory is no fault of the ranges
IsFault ranges Memory = Unit {0}

-- whether two tics are the same, number by number
abbrev pub is_same : Tic → Tic → Bool
is_same a b = int_eq a.forward b.forward && (int_eq a.side b.side && (nat_eq a.turn b.turn && nat_eq a.buttons b.buttons))

-- how many leading tics two sequences share
abbrev pub shared_front : List Tic → List Tic → ℕ
shared_front (a ∷ first) (b ∷ second) = if is_same a b then 1 + shared_front first second else 0
shared_front first second = 0

-- the first tics of two sequences are the same, so many and no more
pub record SharesExactly (shared : ℕ) (a b : List Tic) : Type 0 where
  pub within : shared ≤ length a
  pub same : take shared a ≡ take shared b
  pub differ : shared < length a → slice_get a shared ≢ slice_get b shared
