use Rattle.std.proofs.Common.{rules, ◌≡◌, length, ap, ◌∙◌}
use Rattle.gallery_gen.proofs.Drawing.{drawing_next, length_draws}
use Rattle.gallery_gen.proofs.draws.Draws.take.Goals as goal

pub loop-draw-preserved : goal.loop-draw-preserved
loop-draw-preserved c =
    rw (c.in_ok-push.ensures.items, c.next.ensures.drawn, c.next.ensures.state)
    (drawing_next c.args.self.now.state c.args.count c.loop-draw._draw c.loop-draw.numbers.items c.loop-draw.self.state c.loop-draw-test.true c.loop-draw.invariant)

pub returns-clause-draws : goal.returns-clause-draws
returns-clause-draws c = search rules

pub returns-clause-count : goal.returns-clause-count
returns-clause-count c = ap length (returns-clause-draws c) ∙ length_draws c.args.count c.args.self.now.state
