-- the world stays
use Rattle.std.proofs.Common.{◌≡◌}
use Rattle.fork_speed.proofs.calls.Call.added.Given as goal

abbrev pub invariant-loop-i : goal.invariant-loop-i
invariant-loop-i l = l.world ≡ l.fn.world
