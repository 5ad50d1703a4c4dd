-- Which sequences of a search meet its targets, and the first of them.
use Rattle.std.specs.Prelude.{ℕ, Bool, Option, List, length, filter, slice_get}
use Rattle.std.specs.List.{range_with_len}
use Rattle.game_trait.specs.declared.game.Game.{Ghosts}
use Rattle.brute_ranges.specs.Space.{Ranges, all_sequences, sequence_at}
use Rattle.brute_targets.specs.declared.want.Want.{Want}
use Rattle.brute_targets.specs.Meets.{tics_meet}

-- how many sequences there are
abbrev pub count_of : Ranges → ℕ
count_of ranges = length (all_sequences ranges)

-- the sequence with this number meets the targets, played on from the kept world
abbrev pub meets : {G W : Type 0} → Ghosts G W → G → W → List Want → Ranges → ℕ → Bool
meets rules game kept wants ranges number = tics_meet rules game kept wants (sequence_at ranges number)

-- the numbers that meet, rising
abbrev pub all_meeting : {G W : Type 0} → Ghosts G W → G → W → List Want → Ranges → List ℕ
all_meeting rules game kept wants ranges = filter (meets rules game kept wants ranges) (range_with_len 0 (count_of ranges))

-- the first of them, if there is one
abbrev pub first_meeting : {G W : Type 0} → Ghosts G W → G → W → List Want → Ranges → Option ℕ
first_meeting rules game kept wants ranges = slice_get (all_meeting rules game kept wants ranges) 0
