-- What a search keeps while its hands claim, look and post.
use Rattle.std.specs.Prelude.{◌≡◌, ℕ, ◌≤◌, Bool, Option, List, length}
use Rattle.search_core.specs.Numbers.{first_of}
use Rattle.search_core.specs.Hand.{Standing}
use Rattle.search_core.specs.Machine.{Machine, Covers, Fits, work}
use Rattle.search_core.specs.Order.{Progress, Follows}
use Rattle.search_core.specs.Trail.{HaveTried}
use Rattle.search_core.specs.Dues.{AddsNoMore, LosesNone, GrowsByAtMost, GrowsByAtLeast}

-- of the machine
pub record KeepsOn (old new : Machine) : Type 0 where
  pub fits : (meets : List ℕ) → Fits meets old → Fits meets new
  pub covers : (left : ℕ → Bool) → Covers left old → Covers left new
  pub count : new.count ≡ old.count
  pub block : new.block ≡ old.block
  pub hands : length new.hands ≡ length old.hands
  pub work : work new ≤ work old
  -- the numbers that were tried last are so still
  pub tried : (last : ℕ → Option ℕ) → HaveTried last old → HaveTried last new
  -- what is left to the hands grows as the blocks are worth that they claim
  pub most : (left : Standing → ℕ) (worth : ℕ → ℕ) → AddsNoMore old.count old.block left worth → GrowsByAtMost left worth old new
  pub least : (meets : List ℕ) (left : Standing → ℕ) (worth : ℕ → ℕ) → Fits meets old
      → LosesNone (first_of old.count meets) old.count old.block left worth → GrowsByAtLeast left worth old new

-- and of the turns that are counted
pub record Carries (old new : Progress) : Type 0 where
  pub follows : (meets : List ℕ) (all : ℕ) → Follows meets all old → Follows meets all new
  pub core : KeepsOn old.core new.core
