use Rattle.std.proofs.Common.{refl, sym, subst}
use Rattle.brute_run.specs.Search.{count_of, meets}
use Rattle.brute_run.specs.Working.{Working, IsAtWork}
use Rattle.search_core.specs.declared.hand.Answer.{Answer}
use Rattle.brute_run.proofs.Turning.{IsTold, may_claim, may_post, turn_claim, turn_look, turn_post, turn_try}
use Rattle.brute_run.proofs.worker.Worker.turn.Goals as goal

pub claim-block-requires-clause-tried : goal.claim-block-requires-clause-tried
claim-block-requires-clause-tried g c =
    let old = subst (λ (w : Working _). IsAtWork g.G.Game c.args.game.now c.args.wants.now c.args.space.now w) (sym c.self.view_is) c.requires.work in
    may_claim (count_of c.args.space.now) (meets g.G.Game c.args.game.now c.self.inside.walk.kept c.args.wants.now c.args.space.now) c.self.inside.hand c.self.inside.seat.view old.seated
    (c.in-Claim.ensures.claim_leaves _ old.seated.leaves refl)

pub post-least-requires-clause-meets : goal.post-least-requires-clause-meets
post-least-requires-clause-meets g c =
    let old = subst (λ (w : Working _). IsAtWork g.G.Game c.args.game.now c.args.wants.now c.args.space.now w) (sym c.self.view_is) c.requires.work in
    let at = c.in-Post.ensures.posts in
    may_post (count_of c.args.space.now) (meets g.G.Game c.args.game.now c.self.inside.walk.kept c.args.wants.now c.args.space.now) c.self.inside.hand c.self.inside.seat.view c.in-Post.number old.seated
    at.0 at.1 (c.in-Post.ensures.post_meets _ old.seated.posts)

pub returns-in-Claim-clause-work : goal.returns-in-Claim-clause-work
returns-in-Claim-clause-work g c =
    let old = subst (λ (w : Working _). IsAtWork g.G.Game c.args.game.now c.args.wants.now c.args.space.now w) (sym c.self.view_is) c.requires.work in
    let t = c.told.ensures in
    turn_claim g.G.Game c.args.game.now c.args.wants.now c.args.space.now c.self.inside.hand c.told.new.self c.self.inside.seat c.claim-block.new.seat c.self.inside.walk c.self.inside.steps c.claim-block.result
    old c.in-Claim.ensures.phase c.claim-block.ensures.above_last (record { told_is = t.told; sound = t.sound; leaves = t.leaves; posts = t.posts; tried = t.tried }) c.claim-block.ensures.view

pub returns-in-Look-clause-work : goal.returns-in-Look-clause-work
returns-in-Look-clause-work g c =
    let old = subst (λ (w : Working _). IsAtWork g.G.Game c.args.game.now c.args.wants.now c.args.space.now w) (sym c.self.view_is) c.requires.work in
    let t = c.told-in-Look.ensures in
    turn_look g.G.Game c.args.game.now c.args.wants.now c.args.space.now c.self.inside.hand c.told-in-Look.new.self c.self.inside.seat c.look-least.new.seat c.self.inside.walk c.self.inside.steps c.in-Look.ensures.phase.0 c.look-least.result
    old c.in-Look.ensures.phase.1 c.look-least.ensures.least c.look-least.ensures.falls (record { told_is = t.told; sound = t.sound; leaves = t.leaves; posts = t.posts; tried = t.tried }) c.look-least.ensures.view

pub returns-in-Post-clause-work : goal.returns-in-Post-clause-work
returns-in-Post-clause-work g c =
    let old = subst (λ (w : Working _). IsAtWork g.G.Game c.args.game.now c.args.wants.now c.args.space.now w) (sym c.self.view_is) c.requires.work in
    let t = c.told-in-Post.ensures in
    turn_post g.G.Game c.args.game.now c.args.wants.now c.args.space.now c.self.inside.hand c.told-in-Post.new.self c.self.inside.seat c.post-least.new.seat c.self.inside.walk c.self.inside.steps c.in-Post.number c.post-least.result
    old c.in-Post.ensures.phase c.post-least.ensures.least c.post-least.ensures.falls (record { told_is = t.told; sound = t.sound; leaves = t.leaves; posts = t.posts; tried = t.tried }) c.post-least.ensures.view

pub returns-in_ok-met-in-Try-clause-work : goal.returns-in_ok-met-in-Try-clause-work
returns-in_ok-met-in-Try-clause-work g c =
    let old = subst (λ (w : Working _). IsAtWork g.G.Game c.args.game.now c.args.wants.now c.args.space.now w) (sym c.self.view_is) c.requires.work in
    let t = c.told-in-Try.ensures in
    let v = c.in_ok-met-in-Try.ensures in
    turn_try g.G.Game c.args.game.now c.args.wants.now c.args.space.now c.self.inside.hand c.told-in-Try.new.self c.self.inside.seat c.self.inside.walk c.visit.new.self c.self.inside.steps c.visit.new.steps c.in-Try.number c.in_ok-met-in-Try.met
    old c.in-Try.ensures.phase
    (record { met_is = v.met; belongs = v.belongs; full = v.full; some_world = v.some_world; kept = v.kept; last = v.last; tics_are = v.tics; nearest = v.nearest })
    (subst (λ (a : Answer). IsTold c.self.inside.hand a c.told-in-Try.new.self) c.verdict.ensures
    (record { told_is = t.told; sound = t.sound; leaves = t.leaves; posts = t.posts; tried = t.tried }))
