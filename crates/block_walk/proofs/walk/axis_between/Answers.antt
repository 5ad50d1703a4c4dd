use Rattle.std.proofs.Common.{refl, ◌≡◌, w32, pos, ◌-ℤ◌, FitsSigned, ◌∙◌}
use Rattle.std.proofs.lemmas.Int.{to_z-of_z}
use Rattle.map_geometry.specs.Sides.{less}
use Rattle.map_geometry.proofs.Ways.{read_back}
use Rattle.block_walk.specs.Visits.{part_of_block, slope_between}
use Rattle.block_walk.proofs.Slopes.{other_bits, axis_up, axis_down, away_fits}
use Rattle.block_walk.proofs.walk.axis_between.Goals as goal
use Rattle.block_walk.proofs.walk.axis_between.Goals.{After-slope-slope}

-- the slope, from the differences
slope_is : (c : After-slope-slope) → c.slope-slope.result ≡ slope_between (less c.args.to c.args.from) (less c.args.across_to c.args.across)
slope_is c = c.slope-slope.ensures ∙ rw (
  read_back c.difference.result c.difference.type_inv,
  read_back c.difference-2.result c.difference-2.type_inv,
  c.difference.ensures,
  c.difference-2.ensures,
  to_z-of_z w32 c.args.from c.ranges.from,
  to_z-of_z w32 c.args.to c.ranges.to,
  to_z-of_z w32 c.args.across c.ranges.across,
  to_z-of_z w32 c.args.across_to c.ranges.across_to,
) refl

pub returns-then-begin-end-2 : goal.returns-then-begin-end-2
returns-then-begin-end-2 c =
    let from = to_z-of_z w32 c.args.from c.ranges.from in
    let to = to_z-of_z w32 c.args.to c.ranges.to in
    let across = to_z-of_z w32 c.args.across c.ranges.across in
    let begin = read_back c.blocks_below-begin.result c.blocks_below-begin.type_inv in
    let end' = read_back c.blocks_below-end.result c.blocks_below-end.type_inv in
    let part : c.part.result ≡ part_of_block c.args.from = rw from at c.part.ensures in
    let fits : FitsSigned w32 (pos 65536 -ℤ c.part.result) = rw part (away_fits c.args.from) in
    axis_up c.args.from c.args.to c.args.across c.args.across_to c.blocks_below-begin.result c.blocks_below-end.result c.part.result c.slope-slope.result c.axis_with-then-begin-end-2.result
    (rw from at c.blocks_below-begin.ensures) (rw to at c.blocks_below-end.ensures) (other_bits c.blocks_below-begin.result c.blocks_below-end.result c.if-begin-end.false) part (slope_is (goal.at.returns-then-begin-end-2 c).After-slope-slope)
    (rw (begin, end') at c.if-begin-end-2.true)
    (rw (read_back c.part.result c.part.type_inv, to_z-of_z w32 (pos 65536 -ℤ c.part.result) fits, read_back c.slope-slope.result c.slope-slope.type_inv, across) at c.axis_with-then-begin-end-2.ensures)

pub returns-else-begin-end-2 : goal.returns-else-begin-end-2
returns-else-begin-end-2 c =
    let from = to_z-of_z w32 c.args.from c.ranges.from in
    let to = to_z-of_z w32 c.args.to c.ranges.to in
    let across = to_z-of_z w32 c.args.across c.ranges.across in
    let begin = read_back c.blocks_below-begin.result c.blocks_below-begin.type_inv in
    let end' = read_back c.blocks_below-end.result c.blocks_below-end.type_inv in
    axis_down c.args.from c.args.to c.args.across c.args.across_to c.blocks_below-begin.result c.blocks_below-end.result c.part-else-begin-end-2.result c.slope-slope.result c.axis_with-else-begin-end-2.result
    (rw from at c.blocks_below-begin.ensures) (rw to at c.blocks_below-end.ensures) (other_bits c.blocks_below-begin.result c.blocks_below-end.result c.if-begin-end.false) (rw from at c.part-else-begin-end-2.ensures) (slope_is (goal.at.returns-else-begin-end-2 c).After-slope-slope)
    (rw (begin, end') at c.if-begin-end-2.false)
    (rw (read_back c.part-else-begin-end-2.result c.part-else-begin-end-2.type_inv, read_back c.slope-slope.result c.slope-slope.type_inv, across) at c.axis_with-else-begin-end-2.ensures)
