-- the world still fits
use Rattle.cow_world.specs.Fits.{Fits}
use Rattle.move_tests.proofs.movers.run.Given as goal

abbrev pub invariant-loop-tic : goal.invariant-loop-tic
invariant-loop-tic l = Fits l.level l.tables l.world
