use Rattle.std.proofs.Common.{Bool, ◌||◌, ◌&&◌, nat_lt, length, ap, sym, ◌∙◌, arith}
use Rattle.brute_targets.specs.Lines.{has_bit}
use Rattle.brute_targets.specs.Targets.{acts_at}
use Rattle.brute_targets.proofs.LineBits.{one_more, below_all}
use Rattle.brute_targets.proofs.Holds.{acts_here, acts_past}
use Rattle.brute_targets.proofs.wants.Wants.lines_met.Goals as goal

pub loop-i-preserved : goal.loop-i-preserved
loop-i-preserved g c j =
    let this = acts_here g.G.Game c.args.game.now c.args.world.now c.args.self.now c.deref-want-items.result.now c.loop-i.i c.acts.result _
    (c.deref-want-items.ensures.value ∙ c.self.view_is) c.loop-i-test.true c.acts.ensures in
    c.join_lines-lines.ensures j
    ∙ ap (λ (b : Bool). b || has_bit c.line_bit.result j) (c.loop-i.invariant j)
    ∙ ap (λ (b : Bool). (nat_lt j c.loop-i.i && acts_at g.G.Game c.args.game.now c.args.world.now c.args.self.now j) || b) (c.line_bit.ensures j)
    ∙ sym (one_more (acts_at g.G.Game c.args.game.now c.args.world.now c.args.self.now) c.loop-i.i j c.acts.result this)

pub returns : goal.returns
returns g c i =
    c.loop-i.invariant i
    ∙ below_all (acts_at g.G.Game c.args.game.now c.args.world.now c.args.self.now) c.loop-i.i i
    (λ past. acts_past g.G.Game c.args.game.now c.args.world.now c.args.self.now i
    (omega (arith, past, c.loop-i-test.false, ap length (c.deref-want-items.ensures.value ∙ c.self.view_is))))
