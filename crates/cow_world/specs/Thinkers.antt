-- What a thinker is about.
use Rattle.std.specs.Prelude.{ℕ, Bool, true, false, List, count_by, Option, Some, None}
use Rattle.cow_world.specs.declared.records.Thinker.{Thinker}
use Rattle.cow_world.specs.declared.records.Thinker.TheVariants.{Door, Lift, Floor, Light, Ended}

-- the sector that a thinker changes
abbrev pub sector_of : Thinker → Option ℕ
sector_of (Door sector kind phase top count) = Some sector
sector_of (Lift sector kind phase stopped low high wait count) = Some sector
sector_of (Floor sector kind dest) = Some sector
sector_of (Light sector kind min max count dark up) = Some sector
sector_of Ended = None

-- the sector that a mover moves: a light moves none
abbrev pub moved_by : Thinker → Option ℕ
moved_by (Light sector kind min max count dark up) = None
moved_by thinker = sector_of thinker

-- an active lift, one that is stopped included
abbrev pub is_lift : Thinker → Bool
is_lift (Lift sector kind phase stopped low high wait count) = true
is_lift _ = false

abbrev pub lift_count : List Thinker → ℕ
lift_count thinkers = count_by is_lift thinkers
