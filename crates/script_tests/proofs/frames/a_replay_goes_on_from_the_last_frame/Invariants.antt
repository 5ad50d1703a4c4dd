use Rattle.std.proofs.Common.{[], ◌++◌}
use Rattle.sample_games.specs.contracts.game.SampleGameGame.TheImpl as sample
use Rattle.key_frames.specs.Frames.{AreFrames}
use Rattle.script_tests.proofs.frames.a_replay_goes_on_from_the_last_frame.Given as goal

-- the frames belong to the game and its tics
abbrev pub invariant-loop-call : goal.invariant-loop-call
invariant-loop-call g l = AreFrames sample.ghosts l.game (l.tics.items ++ []) l.frames
