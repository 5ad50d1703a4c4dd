use Rattle.std.proofs.Common.{◌≡◌, ◌≤◌, length, take}
use Rattle.std.specs.Prelude.{reverse}
use Rattle.cow_world.specs.Fits.{Fits}
use Rattle.player_move.specs.Tries.{cross_each}
use Rattle.player_move.proofs.tries.cross_each.Given as goal

abbrev pub invariant-loop-left : goal.invariant-loop-left
invariant-loop-left l = record {
  below : l.left ≤ length l.listed;
  same : cross_each l.level l.tables l.way l.world (reverse (take l.left l.listed)) ≡ cross_each l.level l.tables l.way l.fn.world (reverse l.listed);
  fits : Fits l.level l.tables l.world;
  tics : l.steps.tics ≡ l.fn.steps.tics;
  pages : l.fn.steps.pages ≤ l.steps.pages;
}

abbrev pub decreases-loop-left : goal.decreases-loop-left
decreases-loop-left l = l.left
