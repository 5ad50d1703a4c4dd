use Rattle.std.proofs.Common.{w32, refl, ◌∙◌}
use Rattle.std.proofs.lemmas.Int.{to_z-of_z}
use Rattle.map_geometry.proofs.Ways.{read_back}
use Rattle.map_geometry.proofs.sides.of_slanting_node.Goals as goal

pub returns-clause-side : goal.returns-clause-side
returns-clause-side c =
    c.of_slanting.ensures.side ∙ rw (
      read_back c.fixed_mul-left.result c.fixed_mul-left.type_inv,
      read_back c.fixed_mul-right.result c.fixed_mul-right.type_inv,
      c.fixed_mul-left.ensures,
      c.fixed_mul-right.ensures,
      read_back c.units.result c.units.type_inv,
      read_back c.units-2.result c.units-2.type_inv,
      c.units.ensures,
      c.units-2.ensures,
      to_z-of_z w32 c.args.dx c.ranges.dx,
      to_z-of_z w32 c.args.dy c.ranges.dy,
      to_z-of_z w32 c.args.px c.ranges.px,
      to_z-of_z w32 c.args.py c.ranges.py,
    ) refl
