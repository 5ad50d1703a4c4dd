-- What each of the map's things comes to when a level starts.
use Rattle.std.specs.Prelude.{◌≡◌, ℕ, ◌==◌, ℤ, Bool, ◌&&◌, ◌||◌, not, nat_lt, List, [], ◌∷◌, Option, Some, None, if◌then◌else◌}
use Rattle.std.specs.Int.{w16, cast_unsigned}
use Rattle.std.specs.List.{list_any}
use Rattle.fixed_angle.specs.declared.kind.Kind.{Kind}
use Rattle.fixed_angle.specs.Tables.{Tables, kind_with}
use Rattle.map_geometry.specs.declared.records.Spot.{Spot}
use Rattle.map_geometry.specs.Lists.{Lists, nth_thing}
use Rattle.cow_world.specs.Shapes.{has_bit}
use Rattle.level_start.specs.declared.fault.StartFault.TheVariants.{ThingUnknown, Doom2Thing, Spitter}
use Rattle.level_start.specs.declared.entries.Entry.{Entry}
use Rattle.level_start.specs.declared.entries.Entry.TheVariants.{Skipped, Player, Spawned, Faulty}

-- the number is one of these
abbrev pub is_among : ℕ → List ℕ → Bool
is_among number numbers = list_any (λ other. other == number) numbers

-- a kind that a map of the form `ExMy` can't have
abbrev pub is_of_doom2 : ℕ → Bool
is_of_doom2 number = is_among number (64 ∷ 65 ∷ 66 ∷ 67 ∷ 68 ∷ 69 ∷ 71 ∷ 84 ∷ 88 ∷ 89 ∷ [])

-- the start of another player or of a match, or a thing without a number
abbrev pub is_other_start : ℕ → Bool
is_other_start number = is_among number (0 ∷ 2 ∷ 3 ∷ 4 ∷ 11 ∷ [])

-- the option of a thing that is there at a skill
abbrev pub skill_bit : ℕ → ℕ
skill_bit skill = if nat_lt skill 2 then 1 else if skill == 2 then 2 else 4

-- a thing with these options is there at a skill, and not only where several play
abbrev pub is_meant : ℕ → ℤ → Bool
is_meant skill options = not (has_bit (cast_unsigned w16 options) 16) && has_bit (cast_unsigned w16 options) (skill_bit skill)

-- a thing by the kind with its number; one whose kind isn't spawned without monsters is skipped
abbrev pub entry_by : Option Kind → ℕ → ℕ → Entry
entry_by None i number = Faulty (ThingUnknown i number)
entry_by (Some kind) i number = if has_bit kind.flags 16 then Skipped else Spawned kind

abbrev pub entry_of_kind : Tables → ℕ → ℕ → Entry
entry_of_kind tables i number = entry_by (kind_with tables number) i number

-- Thing i of the map. What a map of this form can't have is a fault at every skill; the player's start is one at every
-- skill. Others have to be meant for the skill.
abbrev pub entry_of : Bool → Tables → ℕ → ℕ → Spot → Entry
entry_of episode_form tables skill i spot =
    if episode_form && is_of_doom2 spot.number then Faulty (Doom2Thing i)
    else if spot.number == 1 then Player
    else if is_other_start spot.number || not (is_meant skill spot.options) then Skipped
    else if spot.number == 89 then Faulty (Spitter i)
    else entry_of_kind tables i spot.number

abbrev pub entry_at : Lists → Tables → ℕ → ℕ → Entry
entry_at level tables skill i = entry_of level.episode_form tables skill i (nth_thing level i)

-- what is spawned is of the kind that the tables have with this number
abbrev pub KnowsKind : Tables → ℕ → Entry → Type 0
KnowsKind tables number (Spawned kind) = kind_with tables number ≡ Some kind
KnowsKind tables number _ = Unit {0}
