use Rattle.std.proofs.Common.{sym, ap, ◌∙◌, arith}
use Rattle.claim_board.specs.Seated.{Seated}
use Rattle.claim_board.proofs.Keeps.{looks}
use Rattle.claim_board.proofs.board.Board.look.Goals as goal

pub load-requires : goal.load-requires
load-requires c = (
  ap (λ (x : Seated). x.board) c.seat.view_is ∙ c.requires ∙ sym c.self.view_is,
  omega (arith, c.self.invariant.0),
  looks _ _ _ _ c.seat.invariant.1,
)
