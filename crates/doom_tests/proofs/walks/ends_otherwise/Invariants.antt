-- the world can be played on
use Rattle.play_step.specs.Doom.{PlaysOn}
use Rattle.doom_tests.proofs.walks.ends_otherwise.Given as goal

abbrev pub invariant-loop-tenth : goal.invariant-loop-tenth
invariant-loop-tenth l = PlaysOn l.game l.world
