-- the world can be played on
use Rattle.play_step.specs.Doom.{PlaysOn}
use Rattle.doom_tests.proofs.played.play.Given as goal

abbrev pub invariant-loop : goal.invariant-loop
invariant-loop l = PlaysOn l.game l.world
