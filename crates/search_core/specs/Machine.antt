-- Several hands over two shared numbers.
use Rattle.std.specs.Prelude.{◌≡◌, ℕ, ◌+◌, ◌-◌, ◌*◌, ◌^◌, ◌<◌, ◌≤◌, ◌⊎◌, Bool, true, false, min, nat_eq, if◌then◌else◌, IfSome, List, [], ◌∷◌, length, slice_index_or, slice_set, replicate, All, count_by, sum_by}
use Rattle.std.specs.List.{list_any}
use Rattle.std.specs.List.Sorted.{IsStrictlyIncreasing}
use Rattle.search_core.specs.declared.hand.Phase.{Phase}
use Rattle.search_core.specs.declared.hand.Phase.TheVariants as phases
use Rattle.search_core.specs.declared.hand.Answer.{Answer}
use Rattle.search_core.specs.declared.hand.Answer.TheVariants as answers
use Rattle.search_core.specs.declared.machine.Turn.{Turn}
use Rattle.search_core.specs.declared.machine.Turn.TheVariants as turns
use Rattle.search_core.specs.Numbers.{block_count}
use Rattle.search_core.specs.Hand.{Standing, fresh, told, open_end, IsHand, IsAhead, PostsMet}

-- the shared numbers and the hands
pub record Machine : Type 0 where
  pub count : ℕ  -- how many numbers there are
  pub block : ℕ  -- how many numbers a block has
  pub next : ℕ  -- the next block, which nobody has claimed
  pub least : ℕ  -- the least number that was posted, or the count
  pub hands : List Standing

-- nothing is claimed and nothing was posted
abbrev pub opening : ℕ → ℕ → ℕ → Machine
opening count block hands =
    record { count = count; block = block; next = 0; least = count; hands = replicate hands (fresh count block) }

-- how hand i stands
abbrev pub hand_at : Machine → ℕ → Standing
hand_at core i = slice_index_or core.hands i (fresh core.count core.block)

-- One turn of hand i, except for a try. A claim answers the next block, and raises it by one. A look answers the
-- least number. A post answers the least number, and lowers it to the number that is posted.
abbrev pub turned_in : Machine → ℕ → Standing → Phase → Machine
turned_in core i hand phases.Claim =
    record core { next = core.next + 1; hands = slice_set core.hands i (told hand (answers.Block core.next)) }
turned_in core i hand (phases.Look k) =
    record core { hands = slice_set core.hands i (told hand (answers.Least core.least)) }
turned_in core i hand (phases.Post k) =
    record core { least = min core.least k; hands = slice_set core.hands i (told hand (answers.Least core.least)) }
turned_in core i hand (phases.Try k) = core
turned_in core i hand phases.Over = core

abbrev pub turned : Machine → ℕ → Machine
turned core i = turned_in core i (hand_at core i) (hand_at core i).phase

-- what a turn answers
abbrev pub turn_in : Phase → Turn
turn_in phases.Claim = turns.Did
turn_in (phases.Look k) = turns.Did
turn_in (phases.Try k) = turns.Try k
turn_in (phases.Post k) = turns.Did
turn_in phases.Over = turns.Over

-- a fact of the number that is to be tried
abbrev pub IfTurnTries : Turn → (ℕ → Type 0) → Type 0
IfTurnTries (turns.Try k) P = P k
IfTurnTries turn P = Unit {0}

-- a try of hand i that was answered
abbrev pub verdict : Bool → Answer
verdict met = if met then answers.Met else answers.Missed

abbrev pub tried : Machine → ℕ → Bool → Machine
tried core i met = record core { hands = slice_set core.hands i (told (hand_at core i) (verdict met)) }

-- one whole turn of hand i, where a try is answered by the test
abbrev pub step_in : (ℕ → Bool) → Machine → ℕ → Phase → Machine
step_in meets core i (phases.Try k) = tried core i (meets k)
step_in meets core i phase = turned core i

abbrev pub step : (ℕ → Bool) → Machine → ℕ → Machine
step meets core i = step_in meets core i (hand_at core i).phase

-- the turns of a list, one after another
abbrev pub run : (ℕ → Bool) → Machine → List ℕ → Machine
run meets core [] = core
run meets core (i ∷ rest) = run meets (step meets core i) rest

-- whether a hand has ended
abbrev pub ended_in : Phase → Bool
ended_in phases.Over = true
ended_in phase = false

abbrev pub has_ended : Standing → Bool
has_ended hand = ended_in hand.phase

abbrev pub AllOver : Machine → Type 0
AllOver core = All (λ hand. has_ended hand ≡ true) core.hands

-- what a hand of this machine keeps
pub record IsHandOf (core : Machine) (hand : Standing) : Type 0 where
  pub count : hand.count ≡ core.count
  pub block : hand.block ≡ core.block
  pub least : core.least ≤ hand.seen
  pub claimed : IfSome hand.last (λ n. n < core.next)
  pub sound : IsHand hand

-- What is true of every machine. Only a hand that ends claims a block past the last one.
pub record IsMachine (core : Machine) : Type 0 where
  pub count : core.count ≤ 2 ^ 40
  pub positive : 0 < core.block
  pub block : core.block ≤ 2 ^ 20
  pub some_hand : 0 < length core.hands
  pub few_hands : length core.hands ≤ 64
  pub least : core.least ≤ core.count
  pub next : core.next ≤ block_count core.count core.block + count_by has_ended core.hands
  pub hands : All (IsHandOf core) core.hands

-- the number is one of the list
abbrev pub is_in : List ℕ → ℕ → Bool
is_in meets n = list_any (λ m. nat_eq m n) meets

-- a list that may be that of the numbers that meet: it rises, and is below the count
abbrev pub IsMeets : ℕ → List ℕ → Type 0
IsMeets count meets = IsStrictlyIncreasing meets × All (λ n. n < count) meets

-- the number will still be tried: nobody has claimed its block, or it is ahead of a hand in its open block
abbrev pub IsAwaited : Machine → ℕ → Type 0
IsAwaited core n = (core.next * core.block ≤ n) ⊎ ((i : ℕ) × (i < length core.hands) × IsAhead (hand_at core i) n)

-- each number below the least that the test marks will still be tried
abbrev pub Covers : (ℕ → Bool) → Machine → Type 0
Covers left core = (n : ℕ) → left n ≡ true → n < core.least → IsAwaited core n

-- the numbers of the list are those that meet, as far as the machine has gone
pub record Fits (meets : List ℕ) (core : Machine) : Type 0 where
  pub list : IsMeets core.count meets
  pub least : (core.least ≡ core.count) ⊎ (is_in meets core.least ≡ true)
  pub posts : All (PostsMet (is_in meets)) core.hands
  pub covers : Covers (is_in meets) core

-- the turns that are left to a hand at most: two for each number of its open block, one post, and a claim
abbrev pub work_in : Standing → Phase → ℕ
work_in hand phases.Claim = 1
work_in hand (phases.Look k) = 2 * (open_end hand - k) + 2
work_in hand (phases.Try k) = 2 * (open_end hand - k) + 1
work_in hand (phases.Post k) = 2
work_in hand phases.Over = 0

-- the turns that are left to all hands at most. It falls with each turn that is no turn of a hand that has ended
abbrev pub work_of : Standing → ℕ
work_of hand = work_in hand hand.phase

-- after a claim a hand has no more than its whole block left, and after any other answer less than before
abbrev pub LeavesLess : Standing → Answer → Standing → Type 0
LeavesLess old (answers.Block n) new = work_of new ≤ 2 * old.block + 2
LeavesLess old answer new = work_of new < work_of old

abbrev pub work : Machine → ℕ
work core = 4 * (core.count - core.next * core.block) + sum_by work_of core.hands
