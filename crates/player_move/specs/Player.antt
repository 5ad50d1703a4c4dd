-- The player, and a world in which some of its numbers are others.
use Rattle.std.specs.Prelude.{◌≡◌, ◌<◌, ℤ, pos, ◌<ℤ◌, length, Bool, Result, Ok, Err}
use Rattle.health_fx.specs.Body.{Body}
use Rattle.cow_world.specs.declared.records.Player.{Player}
use Rattle.cow_world.specs.declared.records.Thing.{Thing}
use Rattle.cow_world.specs.declared.fault.PlayFault.{PlayFault}
use Rattle.cow_world.specs.declared.fault.PlayFault.TheVariants.{Halt as Halted, Memory}
use Rattle.cow_world.specs.Flat.{Gridded, IsLive, parts, set_player, set_thing}
use Rattle.cow_world.specs.Outcome.{Outcome, goes, halts}

abbrev pub player_of : Gridded → Player
player_of world = (parts world).player

-- the world is live, the player's thing is there, and the player lives
pub record HasPlayer (world : Gridded) : Type 0 where
  pub live : IsLive world
  pub there : (parts world).player.thing < length (parts world).things
  pub alive : pos 0 <ℤ (parts world).player.body.health

-- the player's thing becomes this one
abbrev pub set_own_thing : Gridded → Thing → Gridded
set_own_thing world to = set_thing world (player_of world).thing to

abbrev pub with_momentum : Gridded → ℤ → ℤ → Gridded
with_momentum world momx momy = set_player world (record (player_of world) { momx = momx; momy = momy })

abbrev pub with_body : Gridded → Body → Gridded
with_body world body = set_player world (record (player_of world) { body = body })

abbrev pub with_held : Gridded → Bool → Gridded
with_held world held = set_player world (record (player_of world) { held = held })

-- A call's result is what a part that changes nothing comes to: its answer, or the halt. Of want of memory nothing is
-- said.
abbrev pub Answers : {A : Type 0} → Result A PlayFault → Outcome A → Type 0
Answers (Ok answer) outcome = outcome ≡ goes answer
Answers (Err (Halted reason)) outcome = outcome ≡ halts reason
Answers (Err Memory) outcome = Unit {0}
