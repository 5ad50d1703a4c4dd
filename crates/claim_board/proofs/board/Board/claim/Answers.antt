use Rattle.std.proofs.Common.{sym, ap, ◌∙◌, subst, arith}
use Rattle.claim_board.specs.Views.{StartedBelowCount, HasTriedOpenBlock}
use Rattle.claim_board.specs.Seated.{Seated}
use Rattle.claim_board.proofs.Keeps.{claims}
use Rattle.claim_board.proofs.board.Board.claim.Goals as goal

pub fetch_add-requires : goal.fetch_add-requires
fetch_add-requires c =
    let same = ap (λ (x : Seated). x.view) (sym c.seat.view_is) in (
      ap (λ (x : Seated). x.board) c.seat.view_is ∙ c.requires.seat ∙ sym c.self.view_is,
      omega (arith, c.self.invariant.0),
      claims _ _ _ _ c.seat.invariant.1 (subst StartedBelowCount same c.requires.started) (subst HasTriedOpenBlock same c.requires.tried),
    )
