-- How a schedule is kept, for its own proofs.
use Rattle.std.specs.Prelude.{◌≡◌, ℕ, ◌+◌, ◌-◌, ◌^◌, ◌<◌, ◌≤◌, false, List, ◌++◌, length, drop, All}
use Rattle.search_core.specs.Machine.{Machine, IsMachine, work}
use Rattle.search_core.specs.Order.{Progress, numbers_from, hand_next, is_over}

-- the hands that are left of an order from a place on, and of a round from a hand on
abbrev pub left_of : List ℕ → ℕ → ℕ → ℕ → List ℕ
left_of order place at hands = drop place order ++ numbers_from at (hands - at)

-- what is true of every schedule
pub record IsSchedule (core : Machine) (order : List ℕ) (at taken : ℕ) : Type 0 where
  pub sound : IsMachine core
  pub hands : All (λ i. i < length core.hands) order
  pub round : at ≤ length core.hands
  pub few : taken + work core ≤ 2 ^ 43

-- the hand whose turn comes next has not ended
pub record RunsNext (search : Progress) : Type 0 where
  pub some_hand : 0 < length search.left
  pub hand : hand_next search < length search.core.hands
  pub running : is_over search.core (hand_next search) ≡ false
