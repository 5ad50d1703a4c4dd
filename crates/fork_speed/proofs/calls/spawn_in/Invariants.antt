-- the world fits its level
use Rattle.cow_world.specs.Fits.{FitsLevel}
use Rattle.fork_speed.proofs.calls.spawn_in.Given as goal

abbrev pub invariant-loop-i : goal.invariant-loop-i
invariant-loop-i l = FitsLevel l.level l.world
