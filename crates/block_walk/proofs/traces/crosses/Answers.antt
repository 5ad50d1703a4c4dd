use Rattle.std.proofs.Common.{refl, rules, FitsSigned, w32, sym, ◌∙◌}
use Rattle.std.proofs.lemmas.Int.{to_z-of_z}
use Rattle.map_geometry.proofs.Ways.{read_back}
use Rattle.block_walk.proofs.Crossings.{crossed_long, crossed_short}
use Rattle.block_walk.proofs.traces.crosses.Goals as goal

pub returns-then-is_long : goal.returns-then-is_long
returns-then-is_long c =
    let way = c.args.way.now in
    let line = c.args.line.now in
    let x : FitsSigned w32 c.args.line.now.x = search rules in
    let y : FitsSigned w32 c.args.line.now.y = search rules in
    let dx : FitsSigned w32 c.args.line.now.dx = search rules in
    let dy : FitsSigned w32 c.args.line.now.dy = search rules in
    crossed_long way line c.divline_side.result c.divline_side-then-is_long.result (sym c.is_long.ensures ∙ c.if-is_long.true)
    (rw (to_z-of_z w32 line.x x, to_z-of_z w32 line.y y) at c.divline_side.ensures.side)
    (c.divline_side-then-is_long.ensures.side ∙ rw (
      read_back c.sum.result c.sum.type_inv,
      read_back c.sum-then-is_long.result c.sum-then-is_long.type_inv,
      c.sum.ensures,
      c.sum-then-is_long.ensures,
      to_z-of_z w32 line.x x,
      to_z-of_z w32 line.y y,
      to_z-of_z w32 line.dx dx,
      to_z-of_z w32 line.dy dy,
    ) refl)

pub returns-else-is_long : goal.returns-else-is_long
returns-else-is_long c =
    let way = c.args.way.now in
    let line = c.args.line.now in
    let x : FitsSigned w32 c.args.way.now.x = search rules in
    let y : FitsSigned w32 c.args.way.now.y = search rules in
    let dx : FitsSigned w32 c.args.way.now.dx = search rules in
    let dy : FitsSigned w32 c.args.way.now.dy = search rules in
    crossed_short way line c.line_side.result c.line_side-else-is_long.result (sym c.is_long.ensures ∙ c.if-is_long.false)
    (rw (to_z-of_z w32 way.x x, to_z-of_z w32 way.y y) at c.line_side.ensures.side)
    (c.line_side-else-is_long.ensures.side ∙ rw (
      read_back c.sum-else-is_long.result c.sum-else-is_long.type_inv,
      read_back c.sum-else-is_long-2.result c.sum-else-is_long-2.type_inv,
      c.sum-else-is_long.ensures,
      c.sum-else-is_long-2.ensures,
      to_z-of_z w32 way.x x,
      to_z-of_z w32 way.y y,
      to_z-of_z w32 way.dx dx,
      to_z-of_z w32 way.dy dy,
    ) refl)
