use Rattle.std.proofs.Common.{sym, ap, ◌∙◌, arith}
use Rattle.claim_board.specs.Seated.{Seated}
use Rattle.claim_board.proofs.Seats.{splits}
use Rattle.claim_board.proofs.board.Board.split.Goals as goal

pub split_seat-requires : goal.split_seat-requires
split_seat-requires c = (
  ap (λ (x : Seated). x.board) c.seat.view_is ∙ c.requires.seat ∙ sym c.self.view_is,
  omega (arith, c.self.invariant.0),
  splits _ _ _ c.seat.invariant.1 (omega (arith, c.requires.spare, ap (λ (x : Seated). x.view.spare) c.seat.view_is)),
)
