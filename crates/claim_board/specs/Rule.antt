-- What is true of a board between any two atomic steps, whichever workers make them: the state of the table is its
-- two words, the next block and the least number, and the views of all its seats. A step changes one word and the
-- view of the seat that makes it, or the views of the two seats that are split or joined.
use Rattle.std.specs.Prelude.{◌≡◌, ℕ, ◌+◌, ◌*◌, ◌^◌, ◌<◌, ◌≤◌, ◌⊎◌, ◌==◌, nat_lt, nat_le, List, length, Option, None, Some, All, Contains, slice_index, sum_by, count_by, if◌then◌else◌}
use Rattle.std.specs.Option.{ForSome}
use Rattle.std.specs.List.Sorted.{IsStrictlyIncreasing}
use Rattle.atomic_table.specs.Table.{State}
use Rattle.claim_board.specs.declared.view.View.{View}
use Rattle.claim_board.specs.declared.view.Key.{Key}
use Rattle.claim_board.specs.Views.{IsInBlock, spent}

-- How often n stands in the list
abbrev pub times : ℕ → List ℕ → ℕ
times n xs = count_by (λ x. x == n) xs

-- How many of a seat's blocks start at or above the count
abbrev pub past_count : View → ℕ
past_count v = count_by (λ n. nat_le v.count (n * v.block)) v.mine

-- 1 where a claim may follow a last claim that started at `n * block`, or none, and else 0
abbrev pub claims_left : ℕ → ℕ → Option ℕ → ℕ
claims_left count block None = 1
claims_left count block (Some n) = if nat_lt (n * block) count then 1 else 0

-- What the rule says of the view of a seat that was not joined to another
pub record IsFit (key : Key) (meets : List ℕ) (least : ℕ) (v : View) : Type 0 where
  -- it carries what the board was made for
  pub count : v.count ≡ key.count
  pub block : v.block ≡ key.block
  pub meets_same : v.meets ≡ meets
  pub some_part : 0 < v.parts
  -- a post is never lost: the least word is at most what any seat has seen
  pub not_lost : least ≤ v.seen
  pub within : v.seen ≤ key.count
  pub last_is_mine : ForSome v.last (Contains v.mine)
  -- no number below the least seen that meets lies in one of its blocks, but for the open one
  pub tried : (k n : ℕ) → Contains meets k → k < v.seen → Contains v.mine n → IsInBlock v n k → v.last ≡ Some n
  -- a seat claims one block past the count at most, and then no more
  pub few : past_count v + claims_left v.count v.block v.last ≤ v.parts

-- A seat that was joined to another leaves a spent view behind
abbrev pub IsSpentOrFit : Key → List ℕ → ℕ → View → Type 0
IsSpentOrFit key meets least v = (v ≡ spent) ⊎ IsFit key meets least v

-- The rule
pub record IsKept (key : Key) (s : State (Unit {0}) View) : Type 0 where
  -- the numbers that meet: some list, which rises and is below the count
  pub meets : List ℕ
  pub rising : IsStrictlyIncreasing meets
  pub below : All (λ k. k < key.count) meets
  pub small_count : key.count ≤ 2 ^ 40
  pub some_block : 0 < key.block
  pub two_words : length s.words ≡ 2
  -- each block below the next one is among the blocks of one seat, once, and no other block is among those of any
  pub once : (n : ℕ) → sum_by (λ v. times n v.mine) s.views ≡ (if nat_lt n (slice_index s.words 0) then 1 else 0)
  -- the least word is never made up: it is the count, or a number that meets
  pub found : (slice_index s.words 1 ≡ key.count) ⊎ Contains meets (slice_index s.words 1)
  -- the seats that there are, and those that may still be split off, are 64
  pub whole : sum_by (λ v. v.parts + v.spare) s.views ≡ 64
  pub fits : All (IsSpentOrFit key meets (slice_index s.words 1)) s.views
