-- the world stays live
use Rattle.play_tests.specs.Open.{IsOpen}
use Rattle.play_tests.proofs.ended.end_all.Given as goal

abbrev pub invariant-loop : goal.invariant-loop
invariant-loop l = IsOpen l.level l.world
