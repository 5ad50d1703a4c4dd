use Rattle.std.proofs.Common.{arith}
use Rattle.search_core.proofs.Left.{front_of_round}
use Rattle.search_core.proofs.order.Schedule.front.Goals as goal

pub returns-else-self-len-clause-next : goal.returns-else-self-len-clause-next
returns-else-self-len-clause-next c =
    let s = c.self.inside in
    front_of_round c.args.self.now s.core s.turns.now s.place s.at s.taken c.self.view_is (omega (arith, c.if-self-len.false, c.len.ensures)) c.requires
