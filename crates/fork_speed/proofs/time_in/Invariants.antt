-- the world fits its level
use Rattle.cow_world.specs.Fits.{FitsLevel}
use Rattle.fork_speed.proofs.time_in.Given as goal

abbrev pub invariant-loop-call : goal.invariant-loop-call
invariant-loop-call g l = FitsLevel l.level l.world
