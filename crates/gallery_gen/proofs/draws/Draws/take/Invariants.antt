-- what is left to draw
use Rattle.gallery_gen.proofs.Drawing.{Drawing}
use Rattle.gallery_gen.proofs.draws.Draws.take.Given as goal

abbrev pub invariant-loop-draw : goal.invariant-loop-draw
invariant-loop-draw l = Drawing l.fn.self.state l.count l._draw l.numbers.items l.self.state
