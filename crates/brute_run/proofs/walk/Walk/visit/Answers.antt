use Rattle.std.proofs.Common.{◌≡◌, refl, sym, ◌∙◌, ap, subst, arith}
use Rattle.brute_run.specs.Search.{meets}
use Rattle.brute_run.specs.Walks.{Walked, Belongs}
use Rattle.brute_run.proofs.Along.{belongs_cut, nearest_all, top_meets}
use Rattle.brute_run.proofs.walk.Walk.visit.Goals as goal

pub extend-requires : goal.extend-requires
extend-requires g c =
    let old = subst (λ (v : Walked _). Belongs g.G.Game c.args.game.now c.args.wants.now c.args.space.now v) (sym c.self.view_is) c.requires.belongs in
    belongs_cut g.G.Game c.args.game.now c.args.wants.now c.args.space.now _ _ c.args.number c.shared-shared.result
    old c.requires.number c.shared-shared.ensures.exactly.same
    (omega (arith, c.shared-shared.ensures.exactly.within, c.depth-depth.ensures.each c.self.inside.last old.last, c.depth-depth.ensures.each c.args.number c.requires.number))
    c.truncate.ensures.items c.truncate-2.ensures.items refl refl

pub returns-in_err-extend-clause-nearest : goal.returns-in_err-extend-clause-nearest
returns-in_err-extend-clause-nearest g c =
    nearest_all c.args.self.now c.args.space.now c.args.number c.shared-shared.result c.self.inside.last (ap (λ (v : Walked _). v.last) c.self.view_is)
    c.requires.belongs.last c.requires.number c.depth-depth.ensures.each
    c.shared-shared.ensures.shared c.shared-shared.ensures.exactly.within c.shared-shared.ensures.between

pub returns-clause-nearest : goal.returns-clause-nearest
returns-clause-nearest g c =
    nearest_all c.args.self.now c.args.space.now c.args.number c.shared-shared.result c.self.inside.last (ap (λ (v : Walked _). v.last) c.self.view_is)
    c.requires.belongs.last c.requires.number c.depth-depth.ensures.each
    c.shared-shared.ensures.shared c.shared-shared.ensures.exactly.within c.shared-shared.ensures.between

pub returns-clause-met : goal.returns-clause-met
returns-clause-met g c =
    let now = c.extend.new.self in
    let belongs = c.in_ok-extend.ensures.belongs in
    let kept : now.kept ≡ c.args.self.now.kept = c.extend.ensures.kept ∙ ap (λ (v : Walked _). v.kept) c.self.view_is in
    let judged = top_meets g.G.Game c.args.game.now c.args.wants.now c.args.space.now now c.self-2.inside.worlds.items c.self-2.inside.lines.items c.depth-depth.result
    c.index.result.now c.index-2.result.now c.met-met.result belongs (ap (λ (v : Walked _). v.worlds) c.self-2.view_is) (ap (λ (v : Walked _). v.lines) c.self-2.view_is)
    c.depth-depth.ensures.depth c.in_ok-extend.ensures.full c.depth-depth.ensures.deep.0 (c.depth-depth.ensures.each now.last belongs.last)
    c.index.ensures c.index-2.ensures c.met-met.ensures.meets in
    judged ∙ ap (λ w. meets g.G.Game c.args.game.now w c.args.wants.now c.args.space.now now.last) kept
    ∙ ap (λ n. meets g.G.Game c.args.game.now c.args.self.now.kept c.args.wants.now c.args.space.now n) c.extend.ensures.last
