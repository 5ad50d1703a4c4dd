use Rattle.std.proofs.Common.{◌+◌, sym, ap, subst, arith}
use Rattle.claim_board.specs.Views.{IsOver}
use Rattle.claim_board.specs.Seated.{Seated}
use Rattle.claim_board.proofs.Seats.{IsDone, ends, done-each, done-once, done-weighed}
use Rattle.claim_board.proofs.board.Board.close.Goals as goal

-- what stands once the table is closed
done : (c : goal.After-free) → IsDone c.args.seat.view c.word-least.result
done c = let same = ap (λ (x : Seated). x.view) c.seat.view_is in
    subst (λ v. IsDone v c.word-least.result) same
    (ends _ _ _ _ _ _ c.seat.invariant.1 (omega (arith, c.requires.all, ap (λ (x : Seated). x.view.parts + x.view.spare) c.seat.view_is)) (subst IsOver (sym same) c.requires.over) c.close_with-closed.ensures.values.2 c.word-least.ensures)

pub returns-clause-first : goal.returns-clause-first
returns-clause-first c = (done c).first

pub returns-clause-each : goal.returns-clause-each
returns-clause-each c = done-each _ _ (done c)

pub returns-clause-once : goal.returns-clause-once
returns-clause-once c = done-once _ _ (done c)

pub returns-clause-weighed : goal.returns-clause-weighed
returns-clause-weighed c = done-weighed _ _ (done c)
