-- A mover stands where it stood.
use Rattle.std.proofs.Common.{◌≡◌, ℕ, Bool}
use Rattle.map_geometry.specs.Lists.{Lists}
use Rattle.cow_world.specs.Flat.{Gridded, parts}
use Rattle.mover_run.specs.Movers.{IsMover}

-- while the thinkers are the same
pub still_moves : (level : Lists) (old new : Gridded) (place sector : ℕ) (lift : Bool) → (parts new).thinkers ≡ (parts old).thinkers → IsMover level old place sector lift → IsMover level new place sector lift
still_moves level old new place sector lift same mover = record {
  there = rw same mover.there;
  in_level = mover.in_level;
  moves = rw same mover.moves;
  is = rw same mover.is;
}
