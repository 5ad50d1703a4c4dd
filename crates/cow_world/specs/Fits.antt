-- A world fits a level and play tables.
use Rattle.std.specs.Prelude.{◌≡◌, ◌≢◌, ℕ, ◌<◌, ◌≤◌, pos, ◌<ℤ◌, length, Some, IfSome, IsSome, IsTrue}
use Rattle.fixed_angle.specs.Tables.{Tables, kind_with}
use Rattle.map_geometry.specs.Lists.{Lists}
use Rattle.cow_world.specs.declared.records.Sector.{Sector}
use Rattle.cow_world.specs.declared.records.Thing.{Thing}
use Rattle.cow_world.specs.declared.records.Player.{Player}
use Rattle.cow_world.specs.declared.records.Thinker.{Thinker}
use Rattle.cow_world.specs.Thinkers.{moved_by, is_lift, lift_count}
use Rattle.cow_world.specs.Flat.{Gridded, IsLive, parts, sector_at, thing_at, thinker_at, grid_of}

-- The world is live and fits the level: it has as many sectors and line specials as the level has sectors and lines,
-- a mover that a sector names moves that sector, at most 30 lifts are active, and its grid is the level's. That each
-- number which it keeps is in range is true of every world.
pub record FitsLevel (level : Lists) (world : Gridded) : Type 0 where
  pub live : IsLive world
  pub sectors : length (parts world).sectors ≡ length level.sectors
  pub specials : length (parts world).specials ≡ length level.lines
  pub movers : (i : ℕ) → i < length (parts world).sectors → IfSome (sector_at world i).mover (λ mover. moved_by (thinker_at world mover) ≡ Some i)
  pub lifts : lift_count (parts world).thinkers ≤ 30
  pub grid : world.grid ≡ grid_of level

-- each thing but that at one place is of a kind of the tables
abbrev pub KindsBut : Tables → ℕ → Gridded → Type 0
KindsBut tables place world = (i : ℕ) → i < length (parts world).things → i ≢ place → IsSome (kind_with tables (thing_at world i).kind)

-- A world that fits but for the thing at one place: that is a start before the player is spawned, whose place is then
-- that of the next thing, and a start that has spawned the player and not yet set it.
pub record FitsBut (level : Lists) (tables : Tables) (place : ℕ) (world : Gridded) : Type 0 where
  pub lists : FitsLevel level world
  pub kinds : KindsBut tables place world

-- What the parts of a tic ask of their world: it fits but for the player's thing, which is there, and the player lives.
pub record Fits (level : Lists) (tables : Tables) (world : Gridded) : Type 0 where
  pub lists : FitsLevel level world
  pub kinds : KindsBut tables (parts world).player.thing world
  pub there : (parts world).player.thing < length (parts world).things
  pub alive : pos 0 <ℤ (parts world).player.body.health

-- a level that one world fits, the other fits too
abbrev pub KeepsLevel : Gridded → Gridded → Type 0
KeepsLevel old new = (level : Lists) → FitsLevel level old → FitsLevel level new

-- whatever one world fits, the other fits too
pub record KeepsFit (old new : Gridded) : Type 0 where
  pub level : KeepsLevel old new
  pub but : (level : Lists) (tables : Tables) (place : ℕ) → FitsBut level tables place old → FitsBut level tables place new
  pub whole : (level : Lists) (tables : Tables) → Fits level tables old → Fits level tables new

-- The same after a push of a thing, where the tables have its kind. Where they don't, as they need not have that of the
-- player, the world fits but for the new thing.
pub record KeepsFitWith (thing : Thing) (old new : Gridded) : Type 0 where
  pub level : KeepsLevel old new
  pub but : (level : Lists) (tables : Tables) (place : ℕ) → IsSome (kind_with tables thing.kind) → FitsBut level tables place old → FitsBut level tables place new
  pub next : (level : Lists) (tables : Tables) → IsSome (kind_with tables thing.kind) → FitsBut level tables (length (parts old).things) old → FitsBut level tables (length (parts new).things) new
  pub itself : (level : Lists) (tables : Tables) → FitsBut level tables (length (parts old).things) old → FitsBut level tables (length (parts old).things) new
  pub whole : (level : Lists) (tables : Tables) → IsSome (kind_with tables thing.kind) → Fits level tables old → Fits level tables new

-- ---- what a write has to see to

-- the mover that the sector names from now on, if it names one, moves it
abbrev pub NamesMover : Gridded → ℕ → Sector → Type 0
NamesMover world i to = IfSome to.mover (λ mover. moved_by (thinker_at world mover) ≡ Some i)

-- the thinker moves each sector that names its place
pub record Serves (world : Gridded) (i : ℕ) (to : Thinker) : Type 0 where
  pub moves : (sector : ℕ) → sector < length (parts world).sectors → (sector_at world sector).mover ≡ Some i → moved_by to ≡ Some sector
  pub lift : IsTrue (is_lift to) → IsTrue (is_lift (thinker_at world i))

-- the thinker goes on: it moves the sector that it moved, and is a lift if it was one
pub record GoesOn (world : Gridded) (i : ℕ) (to : Thinker) : Type 0 where
  pub moves : moved_by to ≡ moved_by (thinker_at world i)
  pub lift : is_lift to ≡ is_lift (thinker_at world i)

-- the player stands for the same thing, and lives
pub record StaysAlive (world : Gridded) (to : Player) : Type 0 where
  pub thing : to.thing ≡ (parts world).player.thing
  pub alive : pos 0 <ℤ to.body.health
