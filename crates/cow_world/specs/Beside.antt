-- The thing that stands beside the pages of the others.
use Rattle.std.specs.Prelude.{◌≢◌, ℕ, ◌<◌, ◌^◌, List, length}
use Rattle.cow_world.specs.declared.records.Thing.{Thing}

-- there are fewer things than places, and the place is that of a thing, unless it is that of none
pub record IsBeside (things : List Thing) (place : ℕ) : Type 0 where
  pub few : length things < 2 ^ 32
  pub there : place ≢ 4294967295 → place < length things
