-- One hand of the search, as a table of phases.
use Rattle.std.specs.Prelude.{◌≡◌, ℕ, ◌+◌, ◌*◌, ◌^◌, ◌<◌, ◌≤◌, Bool, true, false, min, nat_lt, nat_eq, if◌then◌else◌, Option, Some, None, IfSome, IsSomeAnd}
use Rattle.search_core.specs.Numbers.{block_count}
use Rattle.search_core.specs.declared.hand.Phase.{Phase}
use Rattle.search_core.specs.declared.hand.Phase.TheVariants as phases
use Rattle.search_core.specs.declared.hand.Ask.{Ask}
use Rattle.search_core.specs.declared.hand.Ask.TheVariants as asks
use Rattle.search_core.specs.declared.hand.Answer.{Answer}
use Rattle.search_core.specs.declared.hand.Answer.TheVariants as answers

-- where a hand stands
pub record Standing : Type 0 where
  pub count : ℕ  -- how many numbers there are
  pub block : ℕ  -- how many numbers a block has
  pub phase : Phase  -- what it does next
  pub seen : ℕ  -- the least number that it knows of, the count at first
  pub last : Option ℕ  -- the block that it claimed last

-- a hand that has done nothing
abbrev pub fresh : ℕ → ℕ → Standing
fresh count block = record { count = count; block = block; phase = phases.Claim; seen = count; last = None }

-- the first number of a block, and the number after its last one; of no block, 0 and 0
abbrev pub start_at : ℕ → Option ℕ → ℕ
start_at block None = 0
start_at block (Some n) = n * block

abbrev pub end_at : ℕ → ℕ → Option ℕ → ℕ
end_at count block None = 0
end_at count block (Some n) = min ((n + 1) * block) count

-- the bounds of the block that the hand claimed last
abbrev pub open_start : Standing → ℕ
open_start hand = start_at hand.block hand.last

abbrev pub open_end : Standing → ℕ
open_end hand = end_at hand.count hand.block hand.last

-- what a hand asks for in each phase
abbrev pub ask_of : Phase → Ask
ask_of phases.Claim = asks.Claim
ask_of (phases.Look k) = asks.Look
ask_of (phases.Try k) = asks.Try k
ask_of (phases.Post k) = asks.Post k
ask_of phases.Over = asks.Over

-- the table: a phase, what is told, and how the hand stands then
abbrev pub told_in : Standing → Phase → Answer → Standing
told_in hand phases.Claim (answers.Block n) =
    record hand { last = Some n; phase = if nat_lt (n * hand.block) hand.seen then phases.Look (n * hand.block) else phases.Over }
told_in hand (phases.Look k) (answers.Least v) =
    record hand { seen = min hand.seen v; phase = if nat_lt k (min hand.seen v) then phases.Try k else phases.Claim }
told_in hand (phases.Try k) answers.Missed =
    record hand { phase = if nat_eq (k + 1) (open_end hand) then phases.Claim else phases.Look (k + 1) }
told_in hand (phases.Try k) answers.Met = record hand { phase = phases.Post k }
told_in hand (phases.Post k) (answers.Least v) = record hand { seen = min (min hand.seen v) k; phase = phases.Claim }
-- nothing else is told
told_in hand phase answer = hand

abbrev pub told : Standing → Answer → Standing
told hand answer = told_in hand hand.phase answer

-- the answer is of the kind that is asked for, and within its bounds
abbrev pub AnswersIn : Standing → Phase → Answer → Type 0
AnswersIn hand phases.Claim (answers.Block n) = n ≤ block_count hand.count hand.block + 64
AnswersIn hand (phases.Look k) (answers.Least v) = v ≤ hand.count
AnswersIn hand (phases.Try k) answers.Met = Unit {0}
AnswersIn hand (phases.Try k) answers.Missed = Unit {0}
AnswersIn hand (phases.Post k) (answers.Least v) = v ≤ hand.count
AnswersIn hand phase answer = ⊥

abbrev pub Answers : Standing → Answer → Type 0
Answers hand answer = AnswersIn hand hand.phase answer

-- the number is one of the block that the hand claimed last
abbrev pub InOpen : Standing → ℕ → Type 0
InOpen hand n = (open_start hand ≤ n) × (n < open_end hand)

-- what is known in each phase
abbrev pub FitsPhase : Standing → Phase → Type 0
FitsPhase hand phases.Claim = IfSome hand.last (λ n. n * hand.block < hand.count)
FitsPhase hand (phases.Look k) = InOpen hand k
FitsPhase hand (phases.Try k) = InOpen hand k × (k < hand.seen)
FitsPhase hand (phases.Post k) = InOpen hand k × (k < hand.seen)
FitsPhase hand phases.Over = IsSomeAnd hand.last (λ n. hand.seen ≤ n * hand.block)

-- what is true of every hand
pub record IsHand (hand : Standing) : Type 0 where
  pub count : hand.count ≤ 2 ^ 40
  pub positive : 0 < hand.block
  pub block : hand.block ≤ 2 ^ 20
  pub seen : hand.seen ≤ hand.count
  pub phase : FitsPhase hand hand.phase

-- the number is still ahead of the hand in its open block
abbrev pub AheadIn : Standing → Phase → ℕ → Type 0
AheadIn hand phases.Claim n = ⊥
AheadIn hand (phases.Look k) n = (k ≤ n) × (n < open_end hand)
AheadIn hand (phases.Try k) n = (k ≤ n) × (n < open_end hand)
AheadIn hand (phases.Post k) n = (k ≤ n) × (n < open_end hand)
AheadIn hand phases.Over n = ⊥

abbrev pub IsAhead : Standing → ℕ → Type 0
IsAhead hand n = AheadIn hand hand.phase n

-- of the numbers that the test marks, none of the open block below the least seen is behind the hand
abbrev pub LeavesNone : (ℕ → Bool) → Standing → Type 0
LeavesNone left hand = (n : ℕ) → left n ≡ true → InOpen hand n → n < hand.seen → IsAhead hand n

-- of the numbers that the test marks, none lies in the open block below the least seen
abbrev pub NoneLeft : (ℕ → Bool) → Standing → Type 0
NoneLeft left hand = (n : ℕ) → left n ≡ true → InOpen hand n → n < hand.seen → ⊥

-- the number of a phase
abbrev pub number_in : Phase → ℕ
number_in phases.Claim = 0
number_in (phases.Look k) = k
number_in (phases.Try k) = k
number_in (phases.Post k) = k
number_in phases.Over = 0

-- a number that is told to miss isn't marked by the test
abbrev pub HoldsIfMissed : (ℕ → Bool) → Standing → Answer → Type 0
HoldsIfMissed left hand answers.Missed = left (number_in hand.phase) ≡ false
HoldsIfMissed left hand answer = Unit {0}

-- a number that is told to meet passes the test
abbrev pub HoldsIfMet : (ℕ → Bool) → Standing → Answer → Type 0
HoldsIfMet meets hand answers.Met = meets (number_in hand.phase) ≡ true
HoldsIfMet meets hand answer = Unit {0}

-- a number that is to be posted passes the test
abbrev pub PostsIn : (ℕ → Bool) → Phase → Type 0
PostsIn meets (phases.Post k) = meets k ≡ true
PostsIn meets phase = Unit {0}

abbrev pub PostsMet : (ℕ → Bool) → Standing → Type 0
PostsMet meets hand = PostsIn meets hand.phase

-- the phase in which this is asked
abbrev pub Matches : Ask → Phase → Type 0
Matches asks.Claim phase = phase ≡ phases.Claim
Matches asks.Look phase = (k : ℕ) × (phase ≡ phases.Look k)
Matches (asks.Try k) phase = phase ≡ phases.Try k
Matches (asks.Post k) phase = phase ≡ phases.Post k
Matches asks.Over phase = phase ≡ phases.Over

-- a fact of the number that is to be tried, or posted
abbrev pub IfTry : Ask → (ℕ → Type 0) → Type 0
IfTry (asks.Try k) P = P k
IfTry ask P = Unit {0}

abbrev pub IfPost : Ask → (ℕ → Type 0) → Type 0
IfPost (asks.Post k) P = P k
IfPost ask P = Unit {0}

-- the hand is to try a number
abbrev pub IsTry : Phase → Type 0
IsTry (phases.Try k) = Unit {0}
IsTry phase = ⊥
