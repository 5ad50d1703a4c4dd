use Rattle.std.proofs.Common.{rules, FitsSigned, w32, refl, ◌∙◌}
use Rattle.std.proofs.lemmas.Int.{to_z-of_z}
use Rattle.map_geometry.proofs.Ways.{read_back, not_zero}
use Rattle.map_geometry.proofs.sides.node_side.Goals as goal

pub returns-else-dy-eq0-clause-side : goal.returns-else-dy-eq0-clause-side
returns-else-dy-eq0-clause-side c =
    let x : FitsSigned w32 c.args.node.now.x = search rules in
    let y : FitsSigned w32 c.args.node.now.y = search rules in
    let dx : FitsSigned w32 c.args.node.now.dx = search rules in
    let dy : FitsSigned w32 c.args.node.now.dy = search rules in
    c.of_slanting_node.ensures.side ∙ rw (
      read_back c.difference.result c.difference.type_inv,
      read_back c.difference-else-dy-eq0.result c.difference-else-dy-eq0.type_inv,
      c.difference.ensures,
      c.difference-else-dy-eq0.ensures,
      to_z-of_z w32 c.args.node.now.x x,
      to_z-of_z w32 c.args.node.now.y y,
      to_z-of_z w32 c.args.node.now.dx dx,
      to_z-of_z w32 c.args.node.now.dy dy,
      to_z-of_z w32 c.args.x c.ranges.x,
      to_z-of_z w32 c.args.y c.ranges.y,
      not_zero c.args.node.now.dx c.if-dx-eq0.false,
      not_zero c.args.node.now.dy c.if-dy-eq0.false,
    ) refl
