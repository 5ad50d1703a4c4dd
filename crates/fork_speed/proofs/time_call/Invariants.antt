-- the world stays
use Rattle.std.proofs.Common.{◌≡◌}
use Rattle.fork_speed.proofs.time_call.Given as goal

abbrev pub invariant-loop-round : goal.invariant-loop-round
invariant-loop-round g l = l.world ≡ l.fn.world
