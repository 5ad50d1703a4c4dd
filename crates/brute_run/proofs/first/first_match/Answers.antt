use Rattle.std.proofs.Common.{rules, ◌≡◌, ◌<◌, length, sym, ◌∙◌, ap, subst, arith}
use Rattle.std.specs.Prelude.{All}
use Rattle.brute_run.specs.Walks.{Walked, fresh_walk}
use Rattle.brute_run.proofs.first.first_match.Goals as goal

pub first_among-requires : goal.first_among-requires
first_among-requires g c κs within =
    let first = c.in_ok-first.first in
    let kept : first.kept ≡ c.args.kept.now = ap (λ (w : Walked _). w.kept) c.in_ok-first.ensures.fresh in
    let fits : g.G.Game.fits c.args.game.now first.kept = subst (λ w. g.G.Game.fits c.args.game.now w) (sym kept) c.requires.kept in
    let fresh : first ≡ fresh_walk first.kept = c.in_ok-first.ensures.fresh ∙ ap fresh_walk (sym kept) in
    let same : c.new.new.kept ≡ first.kept = c.new.ensures.kept ∙ sym kept in
    let others : All (λ other. other ≡ fresh_walk first.kept) c.in_ok-others.others.items = subst (λ w. All (λ other. other ≡ fresh_walk w) c.in_ok-others.others.items) same c.in_ok-others.ensures.walks in
    let few : length c.in_ok-others.others.items < 64 = omega (arith, c.in_ok-others.ensures.count, c.requires.workers) in
    search rules
