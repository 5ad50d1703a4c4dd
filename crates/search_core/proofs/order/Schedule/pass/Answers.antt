use Rattle.std.proofs.Common.{arith}
use Rattle.search_core.proofs.Left.{passed_order, passed_round}
use Rattle.search_core.proofs.order.Schedule.pass.Goals as goal
use Rattle.search_core.proofs.order.Schedule.pass.Goals.{then-self-len, else-self-len}

pub returns : goal.returns
returns c =
    let s = c.self.inside in
    elim c.if-self-len.branch [
      | then-self-len w ↦ rw w.self-inside-is (passed_order c.args.self.now s.core s.turns.now s.place s.at s.taken c.self.view_is (omega (arith, w.if-self-len.true, c.len.ensures)))
      | else-self-len w ↦ rw w.self-inside-is (passed_round c.args.self.now s.core s.turns.now s.place s.at s.taken c.self.view_is (omega (arith, w.if-self-len.false, c.len.ensures)) c.requires.some_hand)
    ]
