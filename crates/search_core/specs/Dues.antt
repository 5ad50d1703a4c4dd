-- What is left to the hands, by any measure of one hand, beside what the blocks are worth that were claimed.
use Rattle.std.specs.Prelude.{◌≡◌, ℕ, ◌+◌, ◌≤◌, sum_by}
use Rattle.search_core.specs.declared.hand.Phase.TheVariants as phases
use Rattle.search_core.specs.declared.hand.Answer.TheVariants as answers
use Rattle.search_core.specs.Numbers.{sum_below}
use Rattle.search_core.specs.Hand.{Standing, told, IsHand}
use Rattle.search_core.specs.Machine.{Machine}

-- a hand of a search of so many numbers, in blocks of this size
pub record IsHandFor (count block : ℕ) (hand : Standing) : Type 0 where
  pub count_is : hand.count ≡ count
  pub block_is : hand.block ≡ block
  pub sound : IsHand hand

-- A claim leaves the hand no more than what it had and what its block is worth, and a look or a post no more than
-- what it had.
pub record AddsNoMore (count block : ℕ) (left : Standing → ℕ) (worth : ℕ → ℕ) : Type 0 where
  pub claims : (hand : Standing) (n : ℕ) → IsHandFor count block hand → hand.phase ≡ phases.Claim
      → left (told hand (answers.Block n)) ≤ left hand + worth n
  pub looks : (hand : Standing) (k v : ℕ) → IsHandFor count block hand → hand.phase ≡ phases.Look k
      → left (told hand (answers.Least v)) ≤ left hand
  pub posts : (hand : Standing) (k v : ℕ) → IsHandFor count block hand → hand.phase ≡ phases.Post k
      → left (told hand (answers.Least v)) ≤ left hand

-- A claim leaves the hand no less than what it had and what its block is worth, and a look or a post no less than
-- what it had, as long as it sees nothing below this first number.
pub record LosesNone (first count block : ℕ) (left : Standing → ℕ) (worth : ℕ → ℕ) : Type 0 where
  pub claims : (hand : Standing) (n : ℕ) → IsHandFor count block hand → first ≤ hand.seen → hand.phase ≡ phases.Claim
      → left hand + worth n ≤ left (told hand (answers.Block n))
  pub looks : (hand : Standing) (k v : ℕ) → IsHandFor count block hand → first ≤ hand.seen → first ≤ v → hand.phase ≡ phases.Look k
      → left hand ≤ left (told hand (answers.Least v))
  pub posts : (hand : Standing) (k v : ℕ) → IsHandFor count block hand → first ≤ hand.seen → first ≤ v → hand.phase ≡ phases.Post k
      → left hand ≤ left (told hand (answers.Least v))

-- so much is left to all hands
abbrev pub left_to : (Standing → ℕ) → Machine → ℕ
left_to left core = sum_by left core.hands

-- what is left grew by no more, or by no less, than the blocks are worth that were claimed in between
abbrev pub GrowsByAtMost : (Standing → ℕ) → (ℕ → ℕ) → Machine → Machine → Type 0
GrowsByAtMost left worth old new = left_to left new + sum_below worth old.next ≤ left_to left old + sum_below worth new.next

abbrev pub GrowsByAtLeast : (Standing → ℕ) → (ℕ → ℕ) → Machine → Machine → Type 0
GrowsByAtLeast left worth old new = left_to left old + sum_below worth new.next ≤ left_to left new + sum_below worth old.next
