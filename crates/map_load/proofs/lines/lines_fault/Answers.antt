use Rattle.std.proofs.Common.{length, arith}
use Rattle.fixed_angle.proofs.Order.{each_step, each_stop}
use Rattle.map_geometry.specs.Level.{lists_of}
use Rattle.map_geometry.specs.Conditions.{line_conditions}
use Rattle.map_load.proofs.lines.lines_fault.Goals as goal

pub returns-in-Some : goal.returns-in-Some
returns-in-Some c = each_stop (line_conditions (lists_of c.args.parts.now)) (length c.args.parts.now.lines.items) c.loop-i.i c.in-Some.fault (omega (arith, c.len-i-end.ensures, c.args.parts.now.lines.ok.0)) c.loop-i.invariant c.in-Some.ensures

pub loop-i-preserved : goal.loop-i-preserved
loop-i-preserved c = each_step (line_conditions (lists_of c.args.parts.now)) c.loop-i.i c.loop-i.invariant c.in_default.ensures
