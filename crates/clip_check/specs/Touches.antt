-- What the player takes when it touches a thing.
use Rattle.std.specs.Prelude.{ℕ, ◌==◌, ℤ, pos, negsuc, Bool, false, not, ◌||◌, int_lt, bit_or, Option, Some, None, if◌then◌else◌}
use Rattle.std.specs.Option.{option_map}
use Rattle.map_geometry.specs.Lists.{Lists}
use Rattle.map_geometry.specs.Sides.{less}
use Rattle.health_fx.specs.Body.{Body, taken_of}
use Rattle.cow_world.specs.declared.records.Player.{Player}
use Rattle.cow_world.specs.Flat.{Gridded, parts, thing_at, player_thing, set_thing, set_player}

-- how far a thing stands above the player
abbrev pub rise_of : Gridded → ℕ → ℤ
rise_of world thing = less (thing_at world thing).z (player_thing world).z

-- the player reaches no higher than 56 units, and no deeper than 8
abbrev pub is_out_of_reach : ℤ → Bool
is_out_of_reach rise = int_lt (pos 3670016) rise || int_lt rise (negsuc 524287)

-- the key that a thing with this number is, a card or a skull: blue 1, yellow 2, red 4
abbrev pub key_of : ℕ → Option ℕ
key_of number =
    if number == 5 || number == 40 then Some 1
    else if number == 6 || number == 39 then Some 2
    else if number == 13 || number == 38 then Some 4
    else None

abbrev pub with_key : Player → ℕ → Player
with_key player key = record player { keys = bit_or player.keys key }

abbrev pub with_body : Player → Body → Player
with_body player body = record player { body = body }

-- The player once it has taken a thing with this number, or none where the thing is left: each key is taken, and
-- everything else as the body takes it.
abbrev pub taker_of : Option ℕ → Player → ℕ → Bool → Option Player
taker_of (Some key) player number doom2 = Some (with_key player key)
taker_of None player number doom2 = option_map (with_body player) (taken_of player.body number doom2)

-- the thing is gone
abbrev pub gone : Gridded → ℕ → Gridded
gone world thing = set_thing world thing (record (thing_at world thing) { present = false })

-- a thing is gone exactly where it was taken
abbrev pub taken_by : Option Player → Gridded → ℕ → Gridded
taken_by None world thing = world
taken_by (Some player) world thing = gone (set_player world player) thing

-- the player takes a thing, as if it were in reach
abbrev pub taken_from : Lists → Gridded → ℕ → Gridded
taken_from level world thing =
    taken_by (taker_of (key_of (thing_at world thing).kind) (parts world).player (thing_at world thing).kind (not level.episode_form)) world thing

-- the player touches a thing; those of Doom II are taken where the level is not of the form ExMy
abbrev pub touch_of : Lists → Gridded → ℕ → Gridded
touch_of level world thing = if is_out_of_reach (rise_of world thing) then world else taken_from level world thing
