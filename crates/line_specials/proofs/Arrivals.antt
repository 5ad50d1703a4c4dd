-- The player who comes out of a teleporter.
use Rattle.std.proofs.Common.{◌≡◌, ℕ, ◌<◌, ◌==◌, ℤ, pos, ◌<ℤ◌, Bool, true, false, List, length, get_or, drop, refl}
use Rattle.std.specs.Prelude.{◌&&◌}
use Rattle.std.specs.List.{list_any}
use Rattle.std.proofs.lemmas.List.{drop_more}
use Rattle.cow_world.specs.declared.records.Thing.{Thing}
use Rattle.cow_world.specs.declared.records.Player.{Player}
use Rattle.cow_world.specs.Flat.{Gridded, parts, thing_at}
use Rattle.cow_world.specs.declared.shapes.Shape.{Shape}
use Rattle.cow_world.specs.Shapes.{shape_of, is_shootable}
use Rattle.fixed_angle.specs.Tables.{Tables}
use Rattle.map_geometry.specs.Sides.{plus}
use Rattle.cow_world.specs.Fits.{StaysAlive}
use Rattle.line_specials.specs.Teleports.{put_on_floor, moved_to, stunned, is_near, is_in_the_way}

-- it stands for the same thing, and lives as before
pub stays_alive : (world down there : Gridded) (sector : ℕ) (exit : Thing) → down ≡ put_on_floor world sector → there ≡ moved_to down exit → (player : Player) → player ≡ stunned exit.angle (parts world).player → pos 0 <ℤ (parts world).player.body.health → StaysAlive there player
stays_alive world down there sector exit is-down is-there player is alive = rw (is, is-there, is-down) (record { thing = refl; alive = alive })

-- a test that holds of the next of a list holds of one of those that are left
pub any_at : (test : ℕ → Bool) (xs : List ℕ) (i : ℕ) → i < length xs → test (get_or xs i 0) ≡ true → list_any test (drop i xs) ≡ true
any_at test xs i below holds = rw (drop_more xs i 0 below, holds) refl

-- what can be hurt and reaches the player, and is another thing, is in the way
pub stands_there : (tables : Tables) (world : Gridded) (x y : ℤ) (thing : ℕ) (shape : Shape) (spot : Thing) → (thing == (parts world).player.thing) ≡ false → shape ≡ shape_of tables world thing → spot ≡ thing_at world thing
    → (is_shootable shape && (is_near spot.x x (plus shape.radius (pos 1048576)) && is_near spot.y y (plus shape.radius (pos 1048576)))) ≡ is_in_the_way tables world x y thing
stands_there tables world x y thing shape spot apart shape-is spot-is = rw (shape-is, spot-is, apart) refl
