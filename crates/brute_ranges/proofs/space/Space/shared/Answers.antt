use Rattle.std.proofs.Common.{arith}
use Rattle.brute_ranges.proofs.Sequences.{wheel_facts, shares, shares_all, shares_between}
use Rattle.brute_ranges.proofs.Same.{shared_is}
use Rattle.brute_ranges.proofs.space.Space.shared.Goals as goal

pub nonzero_div-a : goal.nonzero_div-a
nonzero_div-a c =
    (wheel_facts c.self.inside.long c.args.self.now c.self.inside.wheels.items c.self.inside.count c.loop-i.i c.index.result.now c.self.view_is c.self.invariant.0 c.self.invariant.1 (omega (arith, c.depth-depth.ensures.depth)) c.index.ensures).later

pub nonzero_div-b : goal.nonzero_div-b
nonzero_div-b c =
    (wheel_facts c.self.inside.long c.args.self.now c.self.inside.wheels.items c.self.inside.count c.loop-i.i c.index.result.now c.self.view_is c.self.invariant.0 c.self.invariant.1 (omega (arith, c.depth-depth.ensures.depth)) c.index.ensures).later

pub returns-then-a-later-clause-exactly : goal.returns-then-a-later-clause-exactly
returns-then-a-later-clause-exactly c =
    shares c.self.inside.long c.args.self.now c.self.inside.wheels.items c.self.inside.count c.args.a c.args.b c.loop-i.i c.index.result.now c.self.view_is c.self.invariant.0 c.self.invariant.1
    c.requires.first c.requires.second (omega (arith, c.depth-depth.ensures.depth)) c.loop-i.invariant c.index.ensures c.if-a-later.true

pub returns-then-a-later-clause-shared : goal.returns-then-a-later-clause-shared
returns-then-a-later-clause-shared c =
    shared_is _ _ _
    (shares c.self.inside.long c.args.self.now c.self.inside.wheels.items c.self.inside.count c.args.a c.args.b c.loop-i.i c.index.result.now c.self.view_is c.self.invariant.0 c.self.invariant.1
    c.requires.first c.requires.second (omega (arith, c.depth-depth.ensures.depth)) c.loop-i.invariant c.index.ensures c.if-a-later.true)

pub returns-then-a-later-clause-between : goal.returns-then-a-later-clause-between
returns-then-a-later-clause-between c =
    shares_between c.self.inside.long c.args.self.now c.self.inside.wheels.items c.self.inside.count c.args.a c.args.b c.loop-i.i c.self.view_is c.self.invariant.0 c.self.invariant.1
    c.requires.second (omega (arith, c.depth-depth.ensures.depth)) c.loop-i.invariant

pub returns-clause-exactly : goal.returns-clause-exactly
returns-clause-exactly c =
    shares_all c.self.inside.long c.args.self.now c.self.inside.wheels.items c.self.inside.count c.args.a c.args.b c.depth-depth.result c.self.view_is c.self.invariant.0 c.self.invariant.1
    c.requires.first c.requires.second c.depth-depth.ensures.depth (λ j d below. c.loop-i.invariant j d (omega arith))

pub returns-clause-shared : goal.returns-clause-shared
returns-clause-shared c =
    shared_is _ _ _
    (shares_all c.self.inside.long c.args.self.now c.self.inside.wheels.items c.self.inside.count c.args.a c.args.b c.depth-depth.result c.self.view_is c.self.invariant.0 c.self.invariant.1
    c.requires.first c.requires.second c.depth-depth.ensures.depth (λ j d below. c.loop-i.invariant j d (omega arith)))

pub returns-clause-between : goal.returns-clause-between
returns-clause-between c =
    shares_between c.self.inside.long c.args.self.now c.self.inside.wheels.items c.self.inside.count c.args.a c.args.b c.depth-depth.result c.self.view_is c.self.invariant.0 c.self.invariant.1
    c.requires.second (omega (arith, c.depth-depth.ensures.depth)) (λ j d below. c.loop-i.invariant j d (omega arith))
