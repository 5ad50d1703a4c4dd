-- What the numbers of lines mean.
use Rattle.std.specs.Prelude.{ℕ, ◌==◌, Bool, true, false, List, [], ◌∷◌, find, Option, Some, None, option_and_then, if◌then◌else◌}
use Rattle.std.specs.List.{list_any}
use Rattle.cow_world.specs.declared.kinds.DoorKind.TheVariants.{Normal, BlazeRaise, Open, BlazeOpen, Close, BlazeClose, Close30}
use Rattle.cow_world.specs.declared.kinds.FloorKind.TheVariants.{ToHighest, ToLowest, TurboLower, ToCeiling, RaiseBy24 as FloorBy24, ToNext, TurboToNext}
use Rattle.cow_world.specs.declared.kinds.PlatKind.TheVariants.{DownWaitUp, Blazing, Perpetual, RaiseBy24, RaiseBy32, RaiseToNext}
use Rattle.cow_world.specs.declared.kinds.LightKind.TheVariants.{ToGreatest, To255, To35, SlowStrobe, ToLeast}
use Rattle.line_specials.specs.declared.table.Trigger.{Trigger}
use Rattle.line_specials.specs.declared.table.Trigger.TheVariants.{WalkOnce, WalkAgain, SwitchOnce, SwitchAgain, Hand}
use Rattle.line_specials.specs.declared.table.Key.{Key}
use Rattle.line_specials.specs.declared.table.Key.TheVariants.{Blue, Yellow, Red}
use Rattle.line_specials.specs.declared.table.Action.{Action}
use Rattle.line_specials.specs.declared.table.Action.TheVariants.{Door, LockedDoor, Floor, Lift, StopLift, Light, Exit, SecretExit, Teleport, ByHand}

-- A line's number, what sets it off, what it does, and whether it keeps its number then. A switch, or a door that is
-- opened by hand, loses it only where something started.
abbrev pub Row : Type 0
Row = ℕ × Trigger × Action × Bool

-- in the order of the numbers
unfoldable pub rows : List Row
rows =
    (1, Hand, ByHand, true) ∷
    (2, WalkOnce, Door Open, false) ∷
    (3, WalkOnce, Door Close, false) ∷
    (4, WalkOnce, Door Normal, false) ∷
    (5, WalkOnce, Floor ToCeiling, false) ∷
    (10, WalkOnce, Lift DownWaitUp, false) ∷
    (11, SwitchOnce, Exit, false) ∷
    (12, WalkOnce, Light ToGreatest, false) ∷
    (13, WalkOnce, Light To255, false) ∷
    (14, SwitchOnce, Lift RaiseBy32, false) ∷
    (15, SwitchOnce, Lift RaiseBy24, false) ∷
    (16, WalkOnce, Door Close30, false) ∷
    (17, WalkOnce, Light SlowStrobe, false) ∷
    (18, SwitchOnce, Floor ToNext, false) ∷
    (19, WalkOnce, Floor ToHighest, false) ∷
    (20, SwitchOnce, Lift RaiseToNext, false) ∷
    (21, SwitchOnce, Lift DownWaitUp, false) ∷
    (22, WalkOnce, Lift RaiseToNext, false) ∷
    (23, SwitchOnce, Floor ToLowest, false) ∷
    (26, Hand, ByHand, true) ∷
    (27, Hand, ByHand, true) ∷
    (28, Hand, ByHand, true) ∷
    (29, SwitchOnce, Door Normal, false) ∷
    (31, Hand, ByHand, false) ∷
    (32, Hand, ByHand, false) ∷
    (33, Hand, ByHand, false) ∷
    (34, Hand, ByHand, false) ∷
    (35, WalkOnce, Light To35, false) ∷
    (36, WalkOnce, Floor TurboLower, false) ∷
    (38, WalkOnce, Floor ToLowest, false) ∷
    (39, WalkOnce, Teleport, false) ∷
    (42, SwitchAgain, Door Close, true) ∷
    (45, SwitchAgain, Floor ToHighest, true) ∷
    (50, SwitchOnce, Door Close, false) ∷
    (51, SwitchOnce, SecretExit, false) ∷
    (52, WalkOnce, Exit, true) ∷
    (53, WalkOnce, Lift Perpetual, false) ∷
    (54, WalkOnce, StopLift, false) ∷
    (58, WalkOnce, Floor FloorBy24, false) ∷
    (60, SwitchAgain, Floor ToLowest, true) ∷
    (61, SwitchAgain, Door Open, true) ∷
    (62, SwitchAgain, Lift DownWaitUp, true) ∷
    (63, SwitchAgain, Door Normal, true) ∷
    (64, SwitchAgain, Floor ToCeiling, true) ∷
    (66, SwitchAgain, Lift RaiseBy24, true) ∷
    (67, SwitchAgain, Lift RaiseBy32, true) ∷
    (68, SwitchAgain, Lift RaiseToNext, true) ∷
    (69, SwitchAgain, Floor ToNext, true) ∷
    (70, SwitchAgain, Floor TurboLower, true) ∷
    (71, SwitchOnce, Floor TurboLower, false) ∷
    (75, WalkAgain, Door Close, true) ∷
    (76, WalkAgain, Door Close30, true) ∷
    (79, WalkAgain, Light To35, true) ∷
    (80, WalkAgain, Light ToGreatest, true) ∷
    (81, WalkAgain, Light To255, true) ∷
    (82, WalkAgain, Floor ToLowest, true) ∷
    (83, WalkAgain, Floor ToHighest, true) ∷
    (86, WalkAgain, Door Open, true) ∷
    (87, WalkAgain, Lift Perpetual, true) ∷
    (88, WalkAgain, Lift DownWaitUp, true) ∷
    (89, WalkAgain, StopLift, true) ∷
    (90, WalkAgain, Door Normal, true) ∷
    (91, WalkAgain, Floor ToCeiling, true) ∷
    (92, WalkAgain, Floor FloorBy24, true) ∷
    (95, WalkAgain, Lift RaiseToNext, true) ∷
    (97, WalkAgain, Teleport, true) ∷
    (98, WalkAgain, Floor TurboLower, true) ∷
    (99, SwitchAgain, LockedDoor Blue, true) ∷
    (101, SwitchOnce, Floor ToCeiling, false) ∷
    (102, SwitchOnce, Floor ToHighest, false) ∷
    (103, SwitchOnce, Door Open, false) ∷
    (104, WalkOnce, Light ToLeast, false) ∷
    (105, WalkAgain, Door BlazeRaise, true) ∷
    (106, WalkAgain, Door BlazeOpen, true) ∷
    (107, WalkAgain, Door BlazeClose, true) ∷
    (108, WalkOnce, Door BlazeRaise, false) ∷
    (109, WalkOnce, Door BlazeOpen, false) ∷
    (110, WalkOnce, Door BlazeClose, false) ∷
    (111, SwitchOnce, Door BlazeRaise, false) ∷
    (112, SwitchOnce, Door BlazeOpen, false) ∷
    (113, SwitchOnce, Door BlazeClose, false) ∷
    (114, SwitchAgain, Door BlazeRaise, true) ∷
    (115, SwitchAgain, Door BlazeOpen, true) ∷
    (116, SwitchAgain, Door BlazeClose, true) ∷
    (117, Hand, ByHand, true) ∷
    (118, Hand, ByHand, false) ∷
    (119, WalkOnce, Floor ToNext, false) ∷
    (120, WalkAgain, Lift Blazing, true) ∷
    (121, WalkOnce, Lift Blazing, false) ∷
    (122, SwitchOnce, Lift Blazing, false) ∷
    (123, SwitchAgain, Lift Blazing, true) ∷
    (124, WalkOnce, SecretExit, true) ∷
    (128, WalkAgain, Floor ToNext, true) ∷
    (129, WalkAgain, Floor TurboToNext, true) ∷
    (130, WalkOnce, Floor TurboToNext, false) ∷
    (131, SwitchOnce, Floor TurboToNext, false) ∷
    (132, SwitchAgain, Floor TurboToNext, true) ∷
    (133, SwitchOnce, LockedDoor Blue, false) ∷
    (134, SwitchAgain, LockedDoor Red, true) ∷
    (135, SwitchOnce, LockedDoor Red, false) ∷
    (136, SwitchAgain, LockedDoor Yellow, true) ∷
    (137, SwitchOnce, LockedDoor Yellow, false) ∷
    (138, SwitchAgain, Light To255, true) ∷
    (139, SwitchAgain, Light To35, true) ∷ []

-- the numbers that halt when they are crossed
abbrev pub crossed_halts : List ℕ
crossed_halts = 6 ∷ 8 ∷ 25 ∷ 30 ∷ 37 ∷ 40 ∷ 44 ∷ 56 ∷ 57 ∷ 59 ∷ 72 ∷ 73 ∷ 74 ∷ 77 ∷ 84 ∷ 93 ∷ 94 ∷ 96 ∷ 100 ∷ 141 ∷ []

-- the numbers that halt when they are used from the front
abbrev pub used_halts : List ℕ
used_halts = 7 ∷ 9 ∷ 41 ∷ 43 ∷ 49 ∷ 55 ∷ 65 ∷ 127 ∷ 140 ∷ []

-- ---- the row of a number

-- set off by crossing the line
abbrev pub is_walk : Trigger → Bool
is_walk WalkOnce = true
is_walk WalkAgain = true
is_walk SwitchOnce = false
is_walk SwitchAgain = false
is_walk Hand = false

abbrev pub row_of : ℕ → Option Row
row_of special = find (λ (row : Row). row.0 == special) rows

-- the row, if it is set off by crossing; and if it is not
abbrev pub walking : Row → Option Row
walking row = if is_walk row.1 then Some row else None

abbrev pub pressing : Row → Option Row
pressing row = if is_walk row.1 then None else Some row

-- the row of a number that is crossed, and of one that is used
unfoldable pub walk_row : ℕ → Option Row
walk_row special = option_and_then walking (row_of special)

unfoldable pub use_row : ℕ → Option Row
use_row special = option_and_then pressing (row_of special)

abbrev pub is_among : List ℕ → ℕ → Bool
is_among numbers special = list_any (λ number. number == special) numbers

-- the key, as players hold them
abbrev pub key_bit : Key → ℕ
key_bit Blue = 1
key_bit Yellow = 2
key_bit Red = 4
