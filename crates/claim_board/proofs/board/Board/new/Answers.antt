use Rattle.std.proofs.Common.{◌<◌, [], All, sym, ap, ◌∙◌, subst, arith}
use Rattle.claim_board.specs.declared.view.Key.{Key}
use Rattle.claim_board.specs.Views.{opening, told}
use Rattle.claim_board.specs.Steps.{Sat}
use Rattle.claim_board.proofs.Seats.{names}
use Rattle.claim_board.proofs.board.Board.new.Goals as goal

pub load-requires : goal.load-requires
load-requires g c =
    let made = c.in_ok-table.ensures in
    let asked = c.requires in (
      made.2,
      omega (arith, made.0),
      names _ _ _ _ g.meets (ap (λ (m : Sat). m.0) made.4 ∙ ap (λ (k : Key). opening k.count k.block []) (sym made.5)) asked.1.1.0 (subst (λ (k : Key). All (λ x. x < k.count) g.meets) (sym made.5) asked.1.1.1),
    )

pub returns-clause-view : goal.returns-clause-view
returns-clause-view g c = ap (λ (m : Sat). m.0) c.load.ensures.2 ∙ ap (λ (m : Sat). told g.meets m.0) c.in_ok-table.ensures.4
