use Rattle.std.proofs.Common.{◌≡◌, ◌+◌, ◌-◌, ◌*◌, ◌≤◌, max, length}
use Rattle.doom_edge.specs.Counts.{raised}
use Rattle.key_frames.specs.Frames.{frame_tics, StayFramesOn}
use Rattle.key_frames.proofs.play.extend.Given as goal

-- all frames so far belong, and each that was made took the tics from the one before it
abbrev pub invariant-making : goal.invariant-making
invariant-making g l = record {
  belong : StayFramesOn g.G.Game l.game l.tics l.fn.frames.items l.frames.items;
  none_dropped : length l.fn.frames.items ≤ length l.frames.items;
  none_past : length l.frames.items ≤ max (length l.fn.frames.items) (l.place + 1);
  tics : (let made = length l.frames.items - length l.fn.frames.items in
      l.steps.tics ≡ raised l.fn.steps.tics (frame_tics * made));
  tics_never_fall : l.fn.steps.tics ≤ l.steps.tics;
  pages_never_fall : l.fn.steps.pages ≤ l.steps.pages;
}

abbrev pub decreases-making : goal.decreases-making
decreases-making g l = l.place + 1 - length l.frames.items
