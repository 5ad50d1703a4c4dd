-- What a worker keeps at its work, for the proofs.
use Rattle.std.specs.Prelude.{◌≡◌, ℕ, ◌+◌, ◌-◌, ◌*◌, ◌^◌, ◌≤◌, ◌⊎◌, min, Bool, Option, Some, None, List, [], ◌∷◌, length, filter, sum_by}
use Rattle.std.specs.List.{range_with_len}
use Rattle.doom_edge.specs.Counts.{Counts}
use Rattle.game_trait.specs.declared.game.Game.{Ghosts}
use Rattle.brute_ranges.specs.Space.{Ranges}
use Rattle.brute_targets.specs.declared.want.Want.{Want}
use Rattle.search_core.specs.declared.hand.Phase.{Phase}
use Rattle.search_core.specs.declared.hand.Phase.TheVariants as phases
use Rattle.search_core.specs.Numbers.{first_of, sum_below, block_count}
use Rattle.search_core.specs.Hand.{Standing, fresh, open_end, LeavesNone, PostsMet}
use Rattle.search_core.specs.Machine.{work_of}
use Rattle.search_core.specs.Trail.{HasTried}
use Rattle.search_core.specs.Dues.{IsHandFor}
use Rattle.claim_board.specs.declared.view.View.{View}
use Rattle.atomic_table.specs.Seated.{TableId}
use Rattle.claim_board.specs.Seated.{Seated, IsSeatOf}
use Rattle.claim_board.specs.Views.{IsOver}
use Rattle.brute_run.specs.Search.{count_of, meets}
use Rattle.brute_run.specs.Walks.{Walked, Belongs}
use Rattle.brute_run.specs.Costs.{block_size, new_tics, tics_until_met, block_cost}

-- the hand, the seat, the walk and the own counter of a worker
pub record Working (W : Type 0) : Type 0 where
  pub hand : Standing
  pub seat : Seated
  pub walk : Walked W
  pub steps : Counts

-- the number that a walk tried last, if any
abbrev pub trail_of : {W : Type 0} → List W → ℕ → Option ℕ
trail_of [] last = None
trail_of (world ∷ rest) last = Some last

abbrev pub trail : {W : Type 0} → Walked W → Option ℕ
trail walk = trail_of walk.worlds walk.last

-- a walk that has worlds has them for each tic
abbrev pub IsFull : {W : Type 0} → Ranges → Walked W → Type 0
IsFull ranges walk = (walk.worlds ≡ []) ⊎ (length walk.worlds ≡ length ranges.tics)

-- a walk may go on for a hand
pub record IsWalking {G W : Type 0} (rules : Ghosts G W) (game : G) (wants : List Want) (ranges : Ranges) (hand : Standing) (walk : Walked W) : Type 0 where
  pub belongs : Belongs rules game wants ranges walk
  pub full : IsFull ranges walk
  pub tried : HasTried (trail walk) hand

-- the numbers that a test finds to meet, rising, and the first of them
abbrev pub passing : (ℕ → Bool) → ℕ → List ℕ
passing test count = filter test (range_with_len 0 count)

abbrev pub first_passing : (ℕ → Bool) → ℕ → ℕ
first_passing test count = first_of count (passing test count)

-- the hand and the seat know the same of a search for the numbers that a test finds to meet
pub record IsSeatedFor (count : ℕ) (test : ℕ → Bool) (hand : Standing) (view : View) : Type 0 where
  pub hand_for : IsHandFor count block_size hand
  pub count_is : view.count ≡ count
  pub block_is : view.block ≡ block_size
  pub meets_are : view.meets ≡ passing test count
  pub seen : hand.seen ≡ view.seen
  pub last : hand.last ≡ view.last
  pub leaves : LeavesNone test hand
  pub posts : PostsMet test hand
  pub first : first_passing test count ≤ hand.seen

-- what may still be played of the open block, at most
abbrev pub most_in : (ℕ → Bool) → Ranges → Standing → Phase → ℕ
most_in test ranges hand phases.Claim = 0
most_in test ranges hand (phases.Look k) = tics_until_met test ranges k (open_end hand - k)
most_in test ranges hand (phases.Try k) = tics_until_met test ranges k (open_end hand - k)
most_in test ranges hand (phases.Post k) = 0
most_in test ranges hand phases.Over = 0

abbrev pub most_left : (ℕ → Bool) → Ranges → Standing → ℕ
most_left test ranges hand = most_in test ranges hand hand.phase

-- the new tics of the numbers below n, as far as they are below the first that meets
abbrev pub new_below : Ranges → ℕ → ℕ → ℕ
new_below ranges first n = sum_below (new_tics ranges) (min first n)

-- what is still to be played of the open block, at least, and of a whole block
abbrev pub least_in : Ranges → ℕ → Standing → Phase → ℕ
least_in ranges first hand phases.Claim = 0
least_in ranges first hand (phases.Look k) = new_below ranges first (open_end hand) - new_below ranges first k
least_in ranges first hand (phases.Try k) = new_below ranges first (open_end hand) - new_below ranges first k
least_in ranges first hand (phases.Post k) = 0
least_in ranges first hand phases.Over = 0

abbrev pub least_left : Ranges → ℕ → Standing → ℕ
least_left ranges first hand = least_in ranges first hand hand.phase

abbrev pub least_block : Ranges → ℕ → ℕ → ℕ
least_block ranges first n = new_below ranges first ((n + 1) * block_size) - new_below ranges first (n * block_size)

-- The tics that were played, and those that may and must follow of the open block, are those of the blocks that were
-- claimed.
pub record IsPaid (test : ℕ → Bool) (ranges : Ranges) (tics : ℕ) (hand : Standing) (view : View) : Type 0 where
  pub most : tics + most_left test ranges hand ≤ sum_by (block_cost test ranges) view.mine
  pub least : min (sum_by (least_block ranges (first_passing test (count_of ranges))) view.mine) (2 ^ 64 - 1)
      ≤ tics + least_left ranges (first_passing test (count_of ranges)) hand

-- all that a worker keeps
pub record IsAtWork {G W : Type 0} (rules : Ghosts G W) (game : G) (wants : List Want) (ranges : Ranges) (worker : Working W) : Type 0 where
  pub walking : IsWalking rules game wants ranges worker.hand worker.walk
  pub seated : IsSeatedFor (count_of ranges) (meets rules game worker.walk.kept wants ranges) worker.hand worker.seat.view
  pub paid : IsPaid (meets rules game worker.walk.kept wants ranges) ranges worker.steps.tics worker.hand worker.seat.view

-- how many turns a hand has left at most: those of its open block, and of each block that it may claim after it
abbrev pub claims_after : ℕ → Option ℕ → ℕ
claims_after blocks None = blocks + 66
claims_after blocks (Some n) = blocks + 65 - n

abbrev pub turns_left : Standing → ℕ
turns_left hand = 520 * claims_after (block_count hand.count block_size) hand.last + work_of hand

-- What is handed back, of one or more workers who had so many parts of the board: a seat that has ended, and the
-- tics of all of them.
pub record HasWorked (test : ℕ → Bool) (ranges : Ranges) (parts : ℕ) (view : View) (tics : ℕ) : Type 0 where
  pub count_is : view.count ≡ count_of ranges
  pub block_is : view.block ≡ block_size
  pub meets_are : view.meets ≡ passing test (count_of ranges)
  pub over : IsOver view
  pub whole : view.parts + view.spare ≡ parts
  pub first : first_passing test (count_of ranges) ≤ view.seen
  pub most : tics ≤ sum_by (block_cost test ranges) view.mine
  pub least : min (sum_by (least_block ranges (first_passing test (count_of ranges))) view.mine) (2 ^ 64 - 1) ≤ tics

-- a worker with one part of the board, from this kept world
pub record IsInCrew {G W : Type 0} (rules : Ghosts G W) (game : G) (wants : List Want) (ranges : Ranges) (board : TableId) (kept : W) (worker : Working W) : Type 0 where
  pub seat : IsSeatOf board worker.seat
  pub work : IsAtWork rules game wants ranges worker
  pub kept_is : worker.walk.kept ≡ kept
  pub part : worker.seat.view.parts + worker.seat.view.spare ≡ 1

-- a worker that has done nothing
abbrev pub start_of : {W : Type 0} → ℕ → Seated → Walked W → Working W
start_of count seat walk = record { hand = fresh count block_size; seat = seat; walk = walk; steps = record { tics = 0; pages = 0 } }

-- a seat that has made no claim and seen nothing
pub record IsNewSeat (test : ℕ → Bool) (count : ℕ) (view : View) : Type 0 where
  pub count_is : view.count ≡ count
  pub block_is : view.block ≡ block_size
  pub meets_are : view.meets ≡ passing test count
  pub no_block : view.mine ≡ []
  pub no_claim : view.last ≡ None
  pub seen : view.seen ≡ count
