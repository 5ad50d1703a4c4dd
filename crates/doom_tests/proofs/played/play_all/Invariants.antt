-- the world can be played on
use Rattle.play_step.specs.Doom.{PlaysOn}
use Rattle.doom_tests.proofs.played.play_all.Given as goal

abbrev pub invariant-loop-tics : goal.invariant-loop-tics
invariant-loop-tics l = PlaysOn l.game l.world
