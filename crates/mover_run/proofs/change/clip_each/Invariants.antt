-- the things that are left give what all give from the first
use Rattle.std.proofs.Common.{◌≡◌, ◌≤◌, drop, false}
use Rattle.cow_world.specs.Fits.{Fits}
use Rattle.cow_world.specs.Outcome.{each_from}
use Rattle.clip_check.specs.Aside.{TouchesOnly}
use Rattle.mover_run.specs.Planes.{clipped_one}
use Rattle.mover_run.proofs.change.clip_each.Given as goal

abbrev pub invariant-loop-thing : goal.invariant-loop-thing
invariant-loop-thing l = record {
  left : each_from (clipped_one l.fn.level l.fn.tables) (l.world, l.stuck) (drop l.thing-index l.near) ≡ each_from (clipped_one l.fn.level l.fn.tables) (l.fn.world, false) l.near;
  fits : Fits l.fn.level l.fn.tables l.world;
  aside : TouchesOnly l.fn.world l.world;
  tics : l.steps.tics ≡ l.fn.steps.tics;
  pages : l.fn.steps.pages ≤ l.steps.pages;
}
