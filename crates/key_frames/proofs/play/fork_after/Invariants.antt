use Rattle.std.proofs.Common.{◌≡◌, ◌≤◌, take}
use Rattle.doom_edge.specs.Counts.{raised}
use Rattle.game_trait.specs.Replay.{after_all}
use Rattle.key_frames.proofs.play.fork_after.Given as goal

-- the fork has played the tics so far, and each of them was counted
abbrev pub invariant-playing : goal.invariant-playing
invariant-playing g l = record {
  played : l.forked ≡ after_all g.G.Game l.game l.fn.world (take l.tic-index l.tics);
  fitting : g.G.Game.fits l.game l.forked;
  tics : l.steps.tics ≡ raised l.fn.steps.tics l.tic-index;
  tics_never_fall : l.fn.steps.tics ≤ l.steps.tics;
  pages_never_fall : l.fn.steps.pages ≤ l.steps.pages;
}
