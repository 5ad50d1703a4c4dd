use Rattle.std.proofs.Common.{◌≡◌, ◌-◌, ◌≤◌}
use Rattle.cow_world.specs.Fits.{Fits}
use Rattle.player_move.specs.Slides.{slide_of}
use Rattle.player_move.proofs.slides.slide.Given as goal

abbrev pub invariant-loop-pass : goal.invariant-loop-pass
invariant-loop-pass l = record {
  same : slide_of l.level l.tables (2 - l._pass) l.world ≡ slide_of l.level l.tables 2 l.fn.world;
  fits : Fits l.level l.tables l.world;
  tics : l.steps.tics ≡ l.fn.steps.tics;
  pages : l.fn.steps.pages ≤ l.steps.pages;
}
