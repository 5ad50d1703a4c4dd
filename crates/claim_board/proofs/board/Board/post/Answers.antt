use Rattle.std.proofs.Common.{sym, ap, ◌∙◌, subst, arith, Contains}
use Rattle.claim_board.specs.Seated.{Seated}
use Rattle.claim_board.proofs.Keeps.{posts}
use Rattle.claim_board.proofs.board.Board.post.Goals as goal

pub fetch_min-requires : goal.fetch_min-requires
fetch_min-requires c = (
  ap (λ (x : Seated). x.board) c.seat.view_is ∙ c.requires.seat ∙ sym c.self.view_is,
  omega (arith, c.self.invariant.0),
  posts _ _ _ _ c.args.k c.seat.invariant.1 (subst (λ (x : Seated). Contains x.view.meets c.args.k) (sym c.seat.view_is) c.requires.meets),
)
