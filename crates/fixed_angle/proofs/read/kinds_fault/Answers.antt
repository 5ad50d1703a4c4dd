use Rattle.std.proofs.Common.{length}
use Rattle.fixed_angle.proofs.Order.{each_step, each_stop}
use Rattle.fixed_angle.specs.TableFile.{kind_conditions}
use Rattle.fixed_angle.proofs.read.kinds_fault.Goals as goal

pub returns-in-Some : goal.returns-in-Some
returns-in-Some c =
    each_stop (kind_conditions c.args.kinds.now) (length c.args.kinds.now) c.loop-i.i c.in-Some.fault c.loop-i-test.true c.loop-i.invariant c.in-Some.ensures

pub loop-i-preserved : goal.loop-i-preserved
loop-i-preserved c = each_step (kind_conditions c.args.kinds.now) c.loop-i.i c.loop-i.invariant (rw c.in_default.is at c.kind_fault.ensures)
