-- the world stays live, on its grid
use Rattle.play_tests.specs.Open.{IsOpen}
use Rattle.play_tests.proofs.links.link_hundred.Given as goal

abbrev pub invariant-loop-number : goal.invariant-loop-number
invariant-loop-number l = IsOpen l.level l.world
