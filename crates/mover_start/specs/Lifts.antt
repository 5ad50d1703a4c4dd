-- The lift that a kind makes, and how lifts are stopped and woken. Heights are in fixed point, counts in tics; sums
-- wrap.
use Rattle.std.specs.Prelude.{ℕ, ◌%◌, ◌==◌, ℤ, pos, Bool, true, false, not, nat_lt, ◌&&◌, fold, length, Option, Some, None, if◌then◌else◌}
use Rattle.std.specs.Int.{int_max}
use Rattle.std.specs.List.{range_with_len}
use Rattle.std.specs.Ordering.{int_eq}
use Rattle.fixed_angle.specs.Tables.{Tables}
use Rattle.map_geometry.specs.Lists.{Lists, nth_line, nth_sector}
use Rattle.map_geometry.specs.Sides.{plus}
use Rattle.game_trait.specs.declared.shown.Halt.TheVariants.{Lifts}
use Rattle.cow_world.specs.declared.kinds.PlatKind.{PlatKind}
use Rattle.cow_world.specs.declared.kinds.PlatKind.TheVariants.{DownWaitUp, Blazing, Perpetual, RaiseBy24, RaiseBy32, RaiseToNext}
use Rattle.cow_world.specs.declared.records.LiftPhase.{LiftPhase}
use Rattle.cow_world.specs.declared.records.LiftPhase.TheVariants.{Up, Down}
use Rattle.cow_world.specs.declared.records.Thinker.{Thinker}
use Rattle.cow_world.specs.declared.records.Thinker.TheVariants.{Lift}
use Rattle.cow_world.specs.Flat.{Gridded, parts, sector_at, thinker_at, set_sector, set_thinker}
use Rattle.cow_world.specs.Around.{lowest_floor, highest_floor, next_floor}
use Rattle.cow_world.specs.Random.{draw, drawn}
use Rattle.cow_world.specs.Thinkers.{lift_count}
use Rattle.cow_world.specs.Outcome.{Outcome, goes, halts}
use Rattle.mover_start.specs.Begun.{begun, started_all}

-- ---- one row a kind

-- the lower end of its way; those that go up and stay have none
abbrev pub lift_low : PlatKind → Lists → Gridded → ℕ → Option ℤ
lift_low DownWaitUp level world sector = Some (lowest_floor level world sector)
lift_low Blazing level world sector = Some (lowest_floor level world sector)
lift_low Perpetual level world sector = Some (lowest_floor level world sector)
lift_low RaiseBy24 level world sector = None
lift_low RaiseBy32 level world sector = None
lift_low RaiseToNext level world sector = None

-- the upper end
abbrev pub lift_high : PlatKind → Lists → Gridded → ℕ → ℤ
lift_high DownWaitUp level world sector = (sector_at world sector).floor
lift_high Blazing level world sector = (sector_at world sector).floor
lift_high Perpetual level world sector = int_max (highest_floor level world sector) (sector_at world sector).floor
lift_high RaiseBy24 level world sector = plus (sector_at world sector).floor (pos 1572864)
lift_high RaiseBy32 level world sector = plus (sector_at world sector).floor (pos 2097152)
lift_high RaiseToNext level world sector = next_floor level world sector

-- how long it waits at an end
abbrev pub lift_wait : PlatKind → ℤ
lift_wait DownWaitUp = pos 105
lift_wait Blazing = pos 105
lift_wait Perpetual = pos 105
lift_wait RaiseBy24 = pos 0
lift_wait RaiseBy32 = pos 0
lift_wait RaiseToNext = pos 0

-- up by an even random number, down by an odd one
abbrev pub random_phase : ℕ → LiftPhase
random_phase number = if number % 2 == 0 then Up else Down

-- where it begins, and whether that takes a random number
abbrev pub first_phase : PlatKind → Tables → Gridded → LiftPhase
first_phase DownWaitUp tables world = Down
first_phase Blazing tables world = Down
first_phase Perpetual tables world = random_phase (drawn tables world)
first_phase RaiseBy24 tables world = Up
first_phase RaiseBy32 tables world = Up
first_phase RaiseToNext tables world = Up

abbrev pub drawn_for : PlatKind → Gridded → Gridded
drawn_for Perpetual world = draw world
drawn_for kind world = world

-- whether the special of its sector goes
abbrev pub makes_plain : PlatKind → Bool
makes_plain RaiseToNext = true
makes_plain kind = false

-- ---- a start

-- the sector's special goes, if it is to
abbrev pub plain_if : Bool → ℕ → Gridded → Gridded
plain_if true sector world = set_sector world sector (record (sector_at world sector) { special = 0 })
plain_if false sector world = world

-- the lift with its ends as they are now
abbrev pub lift_of : PlatKind → LiftPhase → Lists → Gridded → ℕ → Thinker
lift_of kind phase level world sector =
    Lift sector kind phase false (lift_low kind level world sector) (lift_high kind level world sector) (lift_wait kind) (pos 0)

-- it begins, in a world that has drawn its number and has made its sector plain
abbrev pub lift_begun : PlatKind → Lists → Tables → ℕ → Gridded → Gridded
lift_begun kind level tables sector world =
    begun sector (lift_of kind (first_phase kind tables world) level (drawn_for kind world) sector) (plain_if (makes_plain kind) sector (drawn_for kind world))

-- at most 30 lifts are active, those that are stopped included
abbrev pub lift_started : PlatKind → Lists → Tables → ℕ → Gridded → Outcome Gridded
lift_started kind level tables sector world =
    if nat_lt (lift_count (parts world).thinkers) 30 then goes (lift_begun kind level tables sector world)
    else halts Lifts

-- ---- stopped and woken

-- a lift of a sector with this tag that is stopped, or that is not
abbrev pub is_lift_with : Lists → ℤ → Bool → Thinker → Bool
is_lift_with level tag true (Lift sector kind phase stopped low high wait count) = stopped && int_eq (nth_sector level sector).tag tag
is_lift_with level tag false (Lift sector kind phase stopped low high wait count) = not stopped && int_eq (nth_sector level sector).tag tag
is_lift_with level tag stopped other = false

-- it is stopped, or goes on, where it is
abbrev pub with_stopped : Bool → Thinker → Thinker
with_stopped to (Lift sector kind phase stopped low high wait count) = Lift sector kind phase to low high wait count
with_stopped to other = other

-- thinker i turns where it is such a lift and isn't yet as it is to be; true where one has turned
abbrev pub lift_turned : Lists → ℤ → Bool → Gridded × Bool → ℕ → Gridded × Bool
lift_turned level tag to so_far i =
    if is_lift_with level tag (not to) (thinker_at so_far.0 i) then (set_thinker so_far.0 i (with_stopped to (thinker_at so_far.0 i)), true)
    else so_far

-- all lifts of sectors with a tag
abbrev pub lifts_turned : Lists → ℤ → Bool → Gridded → Gridded × Bool
lifts_turned level tag to world = fold (lift_turned level tag to) (world, false) (range_with_len 0 (length (parts world).thinkers))

-- the lifts of the line's tag are stopped; each keeps its phase
unfoldable pub stop_plat_of : Lists → Gridded → ℕ → Outcome (Gridded × Bool)
stop_plat_of level world line = goes (lifts_turned level (nth_line level line).tag true world)

-- a perpetual lift first wakes those of its tag that are stopped
abbrev pub woken_for : PlatKind → Lists → ℤ → Gridded → Gridded
woken_for Perpetual level tag world = (lifts_turned level tag false world).0
woken_for kind level tag world = world

-- lifts in the sectors with the line's tag
unfoldable pub do_plat_of : Lists → Tables → Gridded → ℕ → PlatKind → Outcome (Gridded × Bool)
do_plat_of level tables world line kind = started_all (lift_started kind level tables) level (nth_line level line).tag (woken_for kind level (nth_line level line).tag world)
