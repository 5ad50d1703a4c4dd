use Rattle.fixed_angle.proofs.Octants.{flat_way, steep_way}
use Rattle.fixed_angle.proofs.tables.PlayTables.angle_of.Goals as goal

pub returns-then-north-east : goal.returns-then-north-east
returns-then-north-east c =
    flat_way c.args.self.now c.args.dx c.args.dy c.unsigned_abs-east.result c.unsigned_abs-north.result c.ranges.dx c.ranges.dy c.unsigned_abs-east.ensures.value c.unsigned_abs-north.ensures.value
    c.slope_div.result c.arc.result c.flat.result c.if-north-east.true c.slope_div.ensures.value c.arc.ensures c.flat.ensures

pub returns-else-north-eq0 : goal.returns-else-north-eq0
returns-else-north-eq0 c =
    steep_way c.args.self.now c.args.dx c.args.dy c.unsigned_abs-east.result c.unsigned_abs-north.result c.ranges.dx c.ranges.dy c.unsigned_abs-east.ensures.value c.unsigned_abs-north.ensures.value
    c.slope_div-else-north-eq0.result c.arc-else-north-eq0.result c.steep.result c.if-north-east.false c.if-north-eq0.false c.slope_div-else-north-eq0.ensures.value c.arc-else-north-eq0.ensures c.steep.ensures
