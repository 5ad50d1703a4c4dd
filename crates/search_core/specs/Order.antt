-- Whole runs, and the number of turns under an order.
use Rattle.std.specs.Prelude.{◌≡◌, ℕ, zero, suc, ◌+◌, ◌^◌, ◌<◌, ◌≤◌, Bool, max, if◌then◌else◌, List, [], ◌∷◌, ◌++◌, length, slice_index}
use Rattle.search_core.specs.Hand.{IsTry, number_in}
use Rattle.search_core.specs.Machine.{Machine, opening, hand_at, has_ended, step, work, is_in, IsMeets, Fits}

-- so many numbers from i on
abbrev pub numbers_from : ℕ → ℕ → List ℕ
numbers_from i zero = []
numbers_from i (suc n) = i ∷ numbers_from (i + 1) n

-- some rounds: in each of them every hand has a turn, from hand 0 on
abbrev pub rounds : ℕ → ℕ → List ℕ
rounds zero hands = []
rounds (suc n) hands = numbers_from 0 hands ++ rounds n hands

-- hand i has ended
abbrev pub is_over : Machine → ℕ → Bool
is_over core i = has_ended (hand_at core i)

-- how many turns are taken along a list of hands: that of a hand that has ended is skipped
abbrev pub taken : (ℕ → Bool) → Machine → List ℕ → ℕ
taken meets core [] = 0
taken meets core (i ∷ rest) = (if is_over core i then 0 else 1) + taken meets (step meets core i) rest

-- How many turns are taken under an order: along the order first, and then in rounds until all hands have ended.
-- In each round before that at least one turn is taken, so there are no more rounds than turns that are left.
abbrev pub events : (ℕ → Bool) → Machine → List ℕ → ℕ
events meets core order = taken meets core (order ++ rounds (work core) (length core.hands))

-- the greatest number of a list, 0 where there is none
abbrev pub greatest : List ℕ → ℕ
greatest [] = 0
greatest (x ∷ xs) = max x (greatest xs)

-- as many hands as an order asks for
abbrev pub hands_of : List ℕ → ℕ
hands_of order = greatest order + 1

-- how many turns a search takes under an order
abbrev pub events_of : ℕ → ℕ → List ℕ → List ℕ → ℕ
events_of count block meets order = events (is_in meets) (opening count block (hands_of order)) order

-- what a search may be made for
pub record IsSearch (numbers size hands : ℕ) (list : List ℕ) : Type 0 where
  pub count : numbers ≤ 2 ^ 40
  pub positive : 0 < size
  pub block : size ≤ 2 ^ 20
  pub some_hand : 0 < hands
  pub few_hands : hands ≤ 64
  pub meets : IsMeets numbers list

-- a search that takes its turns under an order
pub record Progress : Type 0 where
  pub core : Machine
  pub left : List ℕ  -- the hands whose turns come next: what is left of the order, and then of a round
  pub taken : ℕ  -- how many turns were taken

-- The list is that of the numbers that meet, as far as the search has gone, and the turns that were taken and
-- those that are left are so many in all.
pub record Follows (meets : List ℕ) (all : ℕ) (search : Progress) : Type 0 where
  pub fits : Fits meets search.core
  pub turns : search.taken + events (is_in meets) search.core search.left ≡ all

-- the hand whose turn comes next is to try a number
abbrev pub AsksIn : Machine → List ℕ → Type 0
AsksIn core [] = ⊥
AsksIn core (i ∷ rest) = IsTry (hand_at core i).phase

abbrev pub Asks : Progress → Type 0
Asks search = AsksIn search.core search.left

-- that hand, and its number
abbrev pub hand_next : Progress → ℕ
hand_next search = slice_index search.left 0

abbrev pub number_next : Progress → ℕ
number_next search = number_in (hand_at search.core (hand_next search)).phase
