use Rattle.std.proofs.Common.{refl, arith}
use Rattle.search_core.proofs.Left.{turn_carries, turned_still}
use Rattle.search_core.proofs.order.Schedule.turn.Goals as goal

pub returns-in-Did-clause-carries : goal.returns-in-Did-clause-carries
returns-in-Did-clause-carries c =
    let s = c.self.inside in
    turn_carries c.args.self.now c.pass.new.self s.core c.turn.new.self s.turns.now s.place s.at s.taken c.front-hand.result c.self.view_is c.self.invariant.0 c.requires c.front-hand.ensures.next c.in-Did.ensures.answer c.in-Did.ensures.turned c.pass.ensures

pub invariant_of-self : goal.invariant_of-self
invariant_of-self c =
    let s = c.self.inside in
    turned_still c.args.self.now s.core c.turn.new.self s.turns.now s.next.items s.place s.at s.taken c.front-hand.result c.self.view_is c.self.invariant.0 c.self.invariant.1 c.requires
    c.front-hand.ensures.next c.in-Did.ensures.turned c.in-Did.ensures.sound (omega (arith, c.in-Did.ensures.work refl))
