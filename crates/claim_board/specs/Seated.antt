-- A seat as contracts see it.
use Rattle.std.specs.Prelude.{◌≡◌}
use Rattle.atomic_table.specs.Seated.{TableId}
use Rattle.claim_board.specs.declared.view.View.{View}

-- Which board the seat is of, and what it knows
pub record Seated : Type 0 where
  pub board : TableId
  pub view : View

-- The seat is of this board. A board is seen as what tells it from all others
abbrev pub IsSeatOf : TableId → Seated → Type 0
IsSeatOf board seat = seat.board ≡ board
