use Rattle.std.proofs.Common.{sym, ap, ◌∙◌, subst, arith}
use Rattle.claim_board.specs.Views.{HasEnded}
use Rattle.claim_board.specs.Seated.{Seated}
use Rattle.claim_board.proofs.Seats.{joins}
use Rattle.claim_board.proofs.board.Board.join.Goals as goal

pub join_seat-requires : goal.join_seat-requires
join_seat-requires c = (
  ap (λ (x : Seated). x.board) c.seat.view_is ∙ c.requires.seat ∙ sym c.self.view_is,
  ap (λ (x : Seated). x.board) c.other.view_is ∙ c.requires.other ∙ sym c.self.view_is,
  c.other.invariant.0,
  omega (arith, c.self.invariant.0),
  joins _ _ _ _ _ c.seat.invariant.1 c.other.invariant.1 (subst (λ (x : Seated). HasEnded x.view) (sym c.other.view_is) c.requires.ended),
)
