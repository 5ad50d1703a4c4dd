use Rattle.std.proofs.Common.{rules, FitsSigned, w32, refl, ◌∙◌}
use Rattle.std.proofs.lemmas.Int.{to_z-of_z}
use Rattle.map_geometry.proofs.Ways.{read_back}
use Rattle.map_geometry.proofs.sides.num_of.Goals as goal

pub returns : goal.returns
returns c =
    let x : FitsSigned w32 c.args.trace.now.x = search rules in
    let y : FitsSigned w32 c.args.trace.now.y = search rules in
    let line_x : FitsSigned w32 c.args.line.now.x = search rules in
    let line_y : FitsSigned w32 c.args.line.now.y = search rules in
    let dx : FitsSigned w32 c.args.line.now.dx = search rules in
    let dy : FitsSigned w32 c.args.line.now.dy = search rules in
    read_back c.sum.result c.sum.type_inv ∙ (c.sum.ensures ∙ rw (
      read_back c.fixed_mul-along.result c.fixed_mul-along.type_inv,
      c.fixed_mul-along.ensures,
      read_back c.fixed_mul-across.result c.fixed_mul-across.type_inv,
      c.fixed_mul-across.ensures,
      read_back c.part.result c.part.type_inv,
      c.part.ensures,
      read_back c.part-2.result c.part-2.type_inv,
      c.part-2.ensures,
      read_back c.difference.result c.difference.type_inv,
      c.difference.ensures,
      read_back c.difference-2.result c.difference-2.type_inv,
      c.difference-2.ensures,
      to_z-of_z w32 c.args.trace.now.x x,
      to_z-of_z w32 c.args.trace.now.y y,
      to_z-of_z w32 c.args.line.now.x line_x,
      to_z-of_z w32 c.args.line.now.y line_y,
      to_z-of_z w32 c.args.line.now.dx dx,
      to_z-of_z w32 c.args.line.now.dy dy,
    ) refl)
