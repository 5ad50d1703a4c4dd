-- Which number a hand tried last: it goes through a block from its first number on, one after the other.
use Rattle.std.specs.Prelude.{◌≡◌, ◌≢◌, ℕ, ◌+◌, ◌<◌, ◌⊎◌, Option, Some, IfSome, IsSomeAnd, length}
use Rattle.search_core.specs.declared.hand.Phase.{Phase}
use Rattle.search_core.specs.declared.hand.Phase.TheVariants as phases
use Rattle.search_core.specs.declared.hand.Answer.{Answer}
use Rattle.search_core.specs.declared.hand.Answer.TheVariants as answers
use Rattle.search_core.specs.Hand.{Standing, open_start, open_end, number_in}
use Rattle.search_core.specs.Machine.{Machine, hand_at}

-- Where the hand tried this number last, or none, it has come to number k: k is above it, and is the one after it or
-- the first of the block.
pub record ComesTo (last : Option ℕ) (hand : Standing) (k : ℕ) : Type 0 where
  pub above : IfSome last (λ j. j < k)
  pub next : (open_start hand ≡ k) ⊎ IsSomeAnd last (λ j. j + 1 ≡ k)

-- the number that was tried last, in each phase
abbrev pub HasTriedIn : Option ℕ → Standing → Phase → Type 0
HasTriedIn last hand phases.Claim = IfSome last (λ j. j < open_end hand)
HasTriedIn last hand (phases.Look k) = ComesTo last hand k
HasTriedIn last hand (phases.Try k) = ComesTo last hand k
HasTriedIn last hand (phases.Post k) = IfSome last (λ j. j < open_end hand)
HasTriedIn last hand phases.Over = Unit {0}

abbrev pub HasTried : Option ℕ → Standing → Type 0
HasTried last hand = HasTriedIn last hand hand.phase

-- the number that was tried last, after what the hand is told
abbrev pub tried_after : Option ℕ → Standing → Answer → Option ℕ
tried_after last hand answers.Met = Some (number_in hand.phase)
tried_after last hand answers.Missed = Some (number_in hand.phase)
tried_after last hand answer = last

-- a block that is told is above the one that was claimed last
abbrev pub ClaimsAbove : Standing → Answer → Type 0
ClaimsAbove hand (answers.Block n) = IfSome hand.last (λ m. m < n)
ClaimsAbove hand answer = Unit {0}

-- these are the numbers that the hands tried last
abbrev pub HaveTried : (ℕ → Option ℕ) → Machine → Type 0
HaveTried last core = (i : ℕ) → i < length core.hands → HasTried (last i) (hand_at core i)

-- hand i tried number k, and all others nothing more
pub record TriesNow (i k : ℕ) (before now : ℕ → Option ℕ) : Type 0 where
  pub this : now i ≡ Some k
  pub others : (j : ℕ) → j ≢ i → now j ≡ before j
