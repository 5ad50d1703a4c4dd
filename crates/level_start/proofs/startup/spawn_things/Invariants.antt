use Rattle.level_start.proofs.Entered.{Entered}
use Rattle.level_start.proofs.startup.spawn_things.Given as goal

abbrev pub invariant-loop-i : goal.invariant-loop-i
invariant-loop-i l = Entered l.fn.level l.fn.tables l.fn.skill l.world l.stood l.i
