use Rattle.std.proofs.Common.{◌*◌, ◌+◌, length}
use Rattle.brute_run.proofs.crew.+fan_out+fn-fan_out-join+arg2.Given as goal

abbrev pub decreases-fan_out : goal.decreases-fan_out
decreases-fan_out g l = 2 * length l.others.items

abbrev pub decreases-join+arg2 : goal.decreases-join+arg2
decreases-join+arg2 g l = 2 * length l.others.items + 1
