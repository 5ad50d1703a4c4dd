-- Doors that are opened by hand.
use Rattle.std.specs.Prelude.{ℕ, ◌==◌, ◌||◌, Bool, true, false, [], ◌∷◌, Option, Some, None, IsTrue, if◌then◌else◌}
use Rattle.std.specs.List.{list_any}
use Rattle.map_geometry.specs.Lists.{Lists, nth_line}
use Rattle.game_trait.specs.declared.shown.Halt.TheVariants.{Mover, NoBack}
use Rattle.cow_world.specs.declared.kinds.DoorKind.{DoorKind}
use Rattle.cow_world.specs.declared.kinds.DoorKind.TheVariants.{Normal, BlazeRaise, Open, BlazeOpen}
use Rattle.cow_world.specs.declared.records.DoorPhase.{DoorPhase}
use Rattle.cow_world.specs.declared.records.DoorPhase.TheVariants.{First, Up, Wait, Down}
use Rattle.cow_world.specs.declared.records.Thinker.{Thinker}
use Rattle.cow_world.specs.declared.records.Thinker.TheVariants.{Door, Lift, Floor, Light, Ended}
use Rattle.cow_world.specs.Flat.{Gridded, parts, sector_at, thinker_at, line_special_at, set_thinker, set_line_special}
use Rattle.cow_world.specs.Shapes.{has_bit}
use Rattle.cow_world.specs.Outcome.{Outcome, goes, halts}
use Rattle.mover_start.specs.Doors.{door_begun}

-- ---- the numbers of manual doors

abbrev pub is_manual : ℕ → Bool
is_manual special = list_any (λ number. number == special) (1 ∷ 26 ∷ 27 ∷ 28 ∷ 31 ∷ 32 ∷ 33 ∷ 34 ∷ 117 ∷ 118 ∷ [])

abbrev pub IsManual : ℕ → Type 0
IsManual special = IsTrue (is_manual special)

-- the keys that open it, one of which is enough: blue 1, yellow 2, red 4; none is asked where this is 0
abbrev pub lock_of : ℕ → ℕ
lock_of special =
    if special == 26 || special == 32 then 1
    else if special == 27 || special == 34 then 2
    else if special == 28 || special == 33 then 4
    else 0

abbrev pub is_open_to : ℕ → ℕ → Bool
is_open_to keys lock = lock == 0 || has_bit keys lock

-- the door that it makes
abbrev pub manual_kind : ℕ → DoorKind
manual_kind special =
    if special == 31 || special == 32 || special == 33 || special == 34 then Open
    else if special == 117 then BlazeRaise
    else if special == 118 then BlazeOpen
    else Normal

-- a door that opens and stays; its line is done then
abbrev pub stays_open : DoorKind → Bool
stays_open Open = true
stays_open BlazeOpen = true
stays_open kind = false

-- ---- what it does

-- a door on its way down turns up, and any other turns down
abbrev pub turned : DoorPhase → DoorPhase
turned Down = Up
turned First = Down
turned Up = Down
turned Wait = Down

-- the line loses its special, if it is to
abbrev pub done_if : Bool → ℕ → Gridded → Gridded
done_if true line world = set_line_special world line 0
done_if false line world = world

-- a new door in a sector
abbrev pub opened : DoorKind → Lists → Gridded → ℕ → ℕ → Outcome (Gridded × Bool)
opened kind level world line sector = goes (done_if (stays_open kind) line (door_begun kind level sector world), true)

-- By what moves the sector already, and its place: a door turns, or the lines that open for good make a new one
-- beside it. Lifts and floors are in the way.
abbrev pub opened_at : Thinker → ℕ → DoorKind → Lists → Gridded → ℕ → ℕ → Outcome (Gridded × Bool)
opened_at (Door its kind phase top count) mover makes level world line sector =
    if stays_open makes then opened makes level world line sector
    else goes (set_thinker world mover (Door its kind (turned phase) top count), true)
opened_at (Lift its kind phase stopped low high wait count) mover makes level world line sector = halts Mover
opened_at (Floor its kind dest) mover makes level world line sector = halts Mover
opened_at (Light its kind min max count dark up) mover makes level world line sector = halts Mover
opened_at Ended mover makes level world line sector = halts Mover

abbrev pub opened_in : Option ℕ → DoorKind → Lists → Gridded → ℕ → ℕ → Outcome (Gridded × Bool)
opened_in None makes level world line sector = opened makes level world line sector
opened_in (Some mover) makes level world line sector = opened_at (thinker_at world mover) mover makes level world line sector

-- in the sector behind the line
abbrev pub opened_behind : Option ℕ → DoorKind → Lists → Gridded → ℕ → Outcome (Gridded × Bool)
opened_behind None makes level world line = halts (NoBack line)
opened_behind (Some sector) makes level world line = opened_in (sector_at world sector).mover makes level world line sector

-- by the line's special as it is now: without a key of its lock nothing happens
abbrev pub opened_by : ℕ → Lists → Gridded → ℕ → Outcome (Gridded × Bool)
opened_by special level world line =
    if is_open_to (parts world).player.keys (lock_of special)
    then opened_behind (nth_line level line).back (manual_kind special) level world line
    else goes (world, false)

unfoldable pub manual_door_of : Lists → Gridded → ℕ → Outcome (Gridded × Bool)
manual_door_of level world line = opened_by (line_special_at world line) level world line
