-- the world stays live, on its grid
use Rattle.play_tests.specs.Open.{IsOpen}
use Rattle.play_tests.proofs.links.expect_borders.Given as goal

abbrev pub invariant-loop-line : goal.invariant-loop-line
invariant-loop-line g l = IsOpen l.level l.world
