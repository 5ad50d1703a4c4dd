use Rattle.std.proofs.Common.{w32, sym, ◌∙◌}
use Rattle.std.proofs.lemmas.Int.{to_z-of_z}
use Rattle.map_geometry.proofs.Ways.{slanting_by_signs, slanting_by_products}
use Rattle.map_geometry.proofs.sides.of_slanting.Goals as goal

pub returns-then-one_of-clause-side : goal.returns-then-one_of-clause-side
returns-then-one_of-clause-side c =
    slanting_by_signs c.args.dx c.args.dy c.args.px c.args.py c.args.left c.args.right c.one_of-crossed.result c.one_of.result c.back_where.result
    (rw (to_z-of_z w32 c.args.dy c.ranges.dy, to_z-of_z w32 c.args.px c.ranges.px) at c.one_of-crossed.ensures)
    (rw (to_z-of_z w32 c.args.dx c.ranges.dx, to_z-of_z w32 c.args.py c.ranges.py) at c.one_of.ensures)
    (sym c.one_of-2.ensures ∙ c.if-one_of.true) c.back_where.ensures.side

pub returns-else-one_of-clause-side : goal.returns-else-one_of-clause-side
returns-else-one_of-clause-side c =
    slanting_by_products c.args.dx c.args.dy c.args.px c.args.py c.args.left c.args.right c.one_of-crossed.result c.one_of.result c.by_products.result
    (rw (to_z-of_z w32 c.args.dy c.ranges.dy, to_z-of_z w32 c.args.px c.ranges.px) at c.one_of-crossed.ensures)
    (rw (to_z-of_z w32 c.args.dx c.ranges.dx, to_z-of_z w32 c.args.py c.ranges.py) at c.one_of.ensures)
    (sym c.one_of-2.ensures ∙ c.if-one_of.false) (rw (to_z-of_z w32 c.args.left c.ranges.left, to_z-of_z w32 c.args.right c.ranges.right) at c.by_products.ensures)
