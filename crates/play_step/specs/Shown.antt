-- What a world shows, and what can be read of it.
use Rattle.std.specs.Prelude.{ℕ, ℤ, pos, Bool, Option, Some, None}
use Rattle.game_trait.specs.declared.shown.Quantity.{Quantity}
use Rattle.game_trait.specs.declared.shown.Quantity.TheVariants as quantity
use Rattle.game_trait.specs.declared.shown.Shown.{Shown}
use Rattle.game_trait.specs.declared.shown.Shown.TheVariants as shown
use Rattle.cow_world.specs.Flat.{Flat, live, halted, Live, Gridded, parts, player_thing}
use Rattle.cow_world.specs.declared.records.Thing.{Thing}

-- a live world: its number of tics, the player's place and momentum, the angle, the random index, and how it was left
abbrev pub live_shown : Live → Thing → Shown
live_shown lists thing = shown.Live lists.tics thing.x thing.y thing.z lists.player.momx lists.player.momy lists.player.momz lists.player.angle lists.rng lists.exited

-- a halted one: the tic that halted, and why
abbrev pub shown_by : Flat → Gridded → Shown
shown_by (live lists) world = live_shown (parts world) (player_thing world)
shown_by (halted tic reason) world = shown.Halted tic reason

abbrev pub shown_of : Gridded → Shown
shown_of world = shown_by world.flat world

-- one row a quantity
abbrev pub quantity_of : Gridded → Quantity → ℤ
quantity_of world quantity.X = (player_thing world).x
quantity_of world quantity.Y = (player_thing world).y
quantity_of world quantity.Z = (player_thing world).z
quantity_of world quantity.MomX = (parts world).player.momx
quantity_of world quantity.MomY = (parts world).player.momy
quantity_of world quantity.MomZ = (parts world).player.momz
quantity_of world quantity.Angle = pos (parts world).player.angle
quantity_of world quantity.Rng = pos (parts world).rng
quantity_of world quantity.Keys = pos (parts world).player.keys
quantity_of world quantity.Exited = pos (parts world).exited
quantity_of world quantity.Health = (parts world).player.body.health
quantity_of world quantity.Armour = (parts world).player.body.armour

-- nothing can be read of a halted world
abbrev pub reading_by : Flat → Gridded → Quantity → Option ℤ
reading_by (live lists) world quantity = Some (quantity_of world quantity)
reading_by (halted tic reason) world quantity = None

abbrev pub reading_of : Gridded → Quantity → Option ℤ
reading_of world quantity = reading_by world.flat world quantity
