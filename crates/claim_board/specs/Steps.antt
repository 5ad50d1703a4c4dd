-- What each atomic step tells the seat that makes it: of the step, the seat before, the number found in the word, and
-- the seat after. Splitting and joining tell only the new views (`after_split`, `split_off` and `joined`).
use Rattle.std.specs.Prelude.{◌≡◌, ℕ, ◌+◌, ◌<◌, ◌≤◌, List, All}
use Rattle.std.specs.Option.{ForSome}
use Rattle.atomic_table.specs.Table.{Me, Step}
use Rattle.claim_board.specs.declared.view.View.{View}
use Rattle.search_core.specs.Numbers.{block_count}
use Rattle.claim_board.specs.Views.{claimed, looked, posted, told, IsLeastWord}

-- A seat of the table, which holds no slots
abbrev pub Sat : Type 0
Sat = Me (Unit {0}) View

-- The next word was found to be n: block n is the seat's, and above all blocks that it had
pub record Claims (st : Step (Unit {0})) (m : Sat) (n : ℕ) (m' : Sat) : Type 0 where
  pub after : m' ≡ (claimed m.0 n, m.1)
  pub above : All (λ b. b < n) m.0.mine
  pub above_last : ForSome m.0.last (λ b. b < n)
  pub few : n ≤ block_count m.0.count m.0.block + 64

-- The least word was found to be `least`, which is no more than the seat had seen
pub record Finds (m : Sat) (least : ℕ) : Type 0 where
  pub true_number : IsLeastWord m.0 least
  pub falls : least ≤ m.0.seen
  pub within : least ≤ m.0.count

pub record Looks (st : Step (Unit {0})) (m : Sat) (least : ℕ) (m' : Sat) : Type 0 where
  pub after : m' ≡ (looked m.0 least, m.1)
  pub finds : Finds m least

-- The number posted is the step's operand
pub record Posts (st : Step (Unit {0})) (m : Sat) (least : ℕ) (m' : Sat) : Type 0 where
  pub after : m' ≡ (posted m.0 least st.first, m.1)
  pub finds : Finds m least

-- The step that makes a board: the seat learns which numbers meet
abbrev pub tells : List ℕ → Step (Unit {0}) → Sat → ℕ → Sat → Type 0
tells meets st m n m' = m' ≡ (told meets m.0, m.1)
