-- the world can be played on
use Rattle.play_step.specs.Doom.{PlaysOn}
use Rattle.doom_tests.proofs.walks.walk.Given as goal

abbrev pub invariant-loop-i : goal.invariant-loop-i
invariant-loop-i l = PlaysOn l.game l.world
