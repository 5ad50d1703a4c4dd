-- Where the hands of an order come next.
use Rattle.std.specs.Prelude.{◌≡◌, ◌≢◌, ℕ, ◌+◌, ◌<◌, ◌≤◌, false, List, length, slice_index, All}
use Rattle.search_core.specs.Machine.{Machine}
use Rattle.search_core.specs.Order.{is_over, hands_of}

-- from one place of the order on, the hand comes next at another; at the order's end where it comes no more
pub record ComesNext (order : List ℕ) (hand from to : ℕ) : Type 0 where
  pub onward : from ≤ to
  pub within : to ≤ length order
  pub skips : (k : ℕ) → from ≤ k → k < to → slice_index order k ≢ hand
  pub here : to < length order → slice_index order to ≡ hand

-- from a place on, it is known where each hand comes first, and for each place where its hand comes next
pub record AreFound (order first next : List ℕ) (from : ℕ) : Type 0 where
  pub long : length next ≡ length order
  pub hands : (hand : ℕ) → hand < length first → ComesNext order hand from (slice_index first hand)
  pub places : (k : ℕ) → from ≤ k → k < length order → ComesNext order (slice_index order k) (k + 1) (slice_index next k)

-- what is true of every order that was read
pub record AreTurns (order first next : List ℕ) : Type 0 where
  pub found : AreFound order first next 0
  pub hands : length first ≡ hands_of order
  pub few : length first ≤ 64
  pub each : All (λ hand. hand < length first) order

-- of each hand that has not ended it is known where it comes next
pub record KnowsNext (core : Machine) (order : List ℕ) (place : ℕ) (next : List ℕ) : Type 0 where
  pub long : length next ≡ length core.hands
  pub within : place ≤ length order
  pub comes : (hand : ℕ) → hand < length core.hands → is_over core hand ≡ false → ComesNext order hand place (slice_index next hand)
