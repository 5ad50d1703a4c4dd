-- What the floor does to the player who stands on it, by its sector's special.
use Rattle.std.specs.Prelude.{ℕ, ◌%◌, ◌==◌, ℤ, pos, Bool, true, false, ◌||◌, not, nat_lt, int_le, if◌then◌else◌}
use Rattle.std.specs.Ordering.{int_eq}
use Rattle.game_trait.specs.declared.shown.Halt.TheVariants as halt
use Rattle.health_fx.specs.declared.hits.Hurt.{Hurt}
use Rattle.health_fx.specs.declared.hits.Hurt.TheVariants.{Spared, Lived, Died}
use Rattle.health_fx.specs.Body.{hurt_of, fate_of}
use Rattle.fixed_angle.specs.Tables.{Tables}
use Rattle.map_geometry.specs.Lists.{Lists}
use Rattle.map_geometry.specs.Places.{sector_of_place}
use Rattle.cow_world.specs.declared.records.Sector.{Sector}
use Rattle.cow_world.specs.Flat.{Gridded, parts, player_thing, sector_at, set_sector, set_exited}
use Rattle.cow_world.specs.Random.{draw, drawn}
use Rattle.cow_world.specs.Outcome.{Outcome, goes, halts, and_then}
use Rattle.player_move.specs.Player.{player_of, with_body}

-- who lives on after a hit draws a random number, and who dies halts
abbrev pub after_hit : Hurt → Gridded → Outcome Gridded
after_hit Spared world = goes world
after_hit Lived world = goes (draw world)
after_hit Died world = halts halt.Died

-- a hit of so many points; in a finale it leaves at least one point of health
abbrev pub hit_by : ℤ → Bool → Gridded → Outcome Gridded
hit_by damage finale world =
    after_hit (fate_of (player_of world).body damage finale) (with_body world (hurt_of (player_of world).body damage finale))

-- every 32nd tic is on the beat
abbrev pub is_on_beat : Gridded → Bool
is_on_beat world = (parts world).time % 32 == 0

-- a hit on the beat
abbrev pub beaten_by : ℤ → Bool → Gridded → Outcome Gridded
beaten_by damage finale world = if is_on_beat world then hit_by damage finale world else goes world

-- the player wears a radiation suit
abbrev pub wears_suit : Gridded → Bool
wears_suit world = nat_lt 0 (player_of world).body.suit

-- a hit on the beat, which a suit keeps off
abbrev pub burned_by : ℤ → Gridded → Outcome Gridded
burned_by damage world = if wears_suit world then goes world else beaten_by damage false world

-- a hit on the beat, which a suit mostly keeps off: a number is drawn in each tic, and where it is below 5 the hit
-- comes through.
abbrev pub scalded : Tables → Gridded → Outcome Gridded
scalded tables world =
    if wears_suit world then (if nat_lt (drawn tables world) 5 then beaten_by (pos 20) false (draw world) else goes (draw world))
    else beaten_by (pos 20) false world

-- who has at most 10 points of health left leaves the level
abbrev pub leaves_hurt : Gridded → Gridded
leaves_hurt world = if int_le (player_of world).body.health (pos 10) then set_exited world 1 else world

-- the floor that ends an episode: a hit on the beat, and then, in every tic, who has little health left leaves
abbrev pub ended_on : Gridded → Outcome Gridded
ended_on world = and_then (beaten_by (pos 20) true world) (λ hurt. goes (leaves_hurt hurt))

abbrev pub plain : Sector → Sector
plain sector = record sector { special = 0 }

-- a secret is found once
abbrev pub found_in : ℕ → Gridded → Gridded
found_in sector world = set_sector world sector (plain (sector_at world sector))

-- what the special of a sector does to the player; one that is not played halts
abbrev pub felt_by : Tables → ℕ → ℕ → Gridded → Outcome Gridded
felt_by tables sector special world =
    if special == 5 then burned_by (pos 10) world
    else if special == 7 then burned_by (pos 5) world
    else if special == 4 || special == 16 then scalded tables world
    else if special == 9 then goes (found_in sector world)
    else if special == 11 then ended_on world
    else halts (halt.Sector special)

-- the sector in which the player stands
abbrev pub sector_under : Lists → Gridded → ℕ
sector_under level world = sector_of_place level (player_thing world).x (player_thing world).y

-- in a sector without a special, and above the sector's floor or below it, nothing is felt
abbrev pub is_unfelt : Sector → ℤ → Bool
is_unfelt sector z = sector.special == 0 || not (int_eq sector.floor z)

-- What the player feels of the floor on which it stands.
unfoldable pub floor_of : Lists → Tables → Gridded → Outcome Gridded
floor_of level tables world =
    if is_unfelt (sector_at world (sector_under level world)) (player_thing world).z then goes world
    else felt_by tables (sector_under level world) (sector_at world (sector_under level world)).special world
