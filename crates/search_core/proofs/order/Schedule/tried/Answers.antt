use Rattle.std.proofs.Common.{◌≡◌, ◌<◌, length, subst, arith}
use Rattle.search_core.specs.Machine.{IsMachine, tried}
use Rattle.search_core.specs.Order.{Progress, hand_next}
use Rattle.search_core.proofs.Left.{try_follows, try_covers, try_core, try_tried, try_left, tried_still}
use Rattle.search_core.proofs.order.Schedule.tried.Goals as goal

pub returns-clause-follows : goal.returns-clause-follows
returns-clause-follows c =
    let s = c.self.inside in
    try_follows c.args.self.now c.pass.new.self s.core c.tried.new.self s.turns.now s.place s.at s.taken c.front-hand.result c.args.met c.self.view_is c.self.invariant.0 c.requires c.front-hand.ensures.next c.front-hand.ensures.hand c.tried.ensures.tried c.pass.ensures

pub returns-clause-covers : goal.returns-clause-covers
returns-clause-covers c =
    let s = c.self.inside in
    try_covers c.args.self.now c.pass.new.self s.core c.tried.new.self s.turns.now s.place s.at s.taken c.front-hand.result c.args.met c.self.view_is c.requires c.front-hand.ensures.next c.front-hand.ensures.hand c.tried.ensures.tried c.pass.ensures

-- the machine after the try, and that the hand is one of the old one's
after : (c : goal.After-pass) → c.pass.new.self.core ≡ tried c.args.self.now.core (hand_next c.args.self.now) c.args.met
after c =
    let s = c.self.inside in
    try_core c.args.self.now c.pass.new.self s.core c.tried.new.self s.turns.now s.place s.at s.taken c.front-hand.result c.args.met c.self.view_is c.front-hand.ensures.next c.tried.ensures.tried c.pass.ensures

within : (c : goal.After-pass) → hand_next c.args.self.now < length c.args.self.now.core.hands
within c = omega (arith, c.front-hand.ensures.next, c.front-hand.ensures.hand)

pub returns-clause-core : goal.returns-clause-core
returns-clause-core c = after c

pub returns-clause-tried : goal.returns-clause-tried
returns-clause-tried c =
    try_tried c.args.self.now c.pass.new.self c.args.met (subst (λ (p : Progress). IsMachine p.core) c.self.view_is c.self.invariant.0.sound) c.requires (within c) (after c)

pub returns-clause-left : goal.returns-clause-left
returns-clause-left c = try_left c.args.self.now c.pass.new.self c.args.met (within c) (after c)

pub invariant_of-self : goal.invariant_of-self
invariant_of-self c =
    let s = c.self.inside in
    tried_still c.args.self.now s.core c.tried.new.self s.turns.now s.next.items s.place s.at s.taken c.front-hand.result c.args.met c.self.view_is c.self.invariant.0 c.self.invariant.1 c.requires
    c.front-hand.ensures.next c.tried.ensures.tried c.tried.ensures.sound (omega (arith, c.tried.ensures.work))
