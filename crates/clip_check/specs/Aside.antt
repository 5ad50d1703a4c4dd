-- What a check and a clip leave as it is.
use Rattle.std.specs.Prelude.{◌≡◌, ℕ, length}
use Rattle.cow_world.specs.Flat.{Gridded, parts, thing_at}

-- The player may have touched things, and things may have been lifted: what may differ is how high a thing stands and
-- between what, whether it is present, the player's keys and its body.
pub record TouchesOnly (old new : Gridded) : Type 0 where
  pub sectors : (parts new).sectors ≡ (parts old).sectors
  pub specials : (parts new).specials ≡ (parts old).specials
  pub thinkers : (parts new).thinkers ≡ (parts old).thinkers
  pub links : (parts new).links ≡ (parts old).links
  pub acted : (parts new).acted ≡ (parts old).acted
  pub rng : (parts new).rng ≡ (parts old).rng
  pub time : (parts new).time ≡ (parts old).time
  pub tics : (parts new).tics ≡ (parts old).tics
  pub exited : (parts new).exited ≡ (parts old).exited
  pub grid : new.grid ≡ old.grid
  pub many : length (parts new).things ≡ length (parts old).things
  pub kinds : (i : ℕ) → (thing_at new i).kind ≡ (thing_at old i).kind
  pub xs : (i : ℕ) → (thing_at new i).x ≡ (thing_at old i).x
  pub ys : (i : ℕ) → (thing_at new i).y ≡ (thing_at old i).y
  pub player : (parts new).player.thing ≡ (parts old).player.thing
