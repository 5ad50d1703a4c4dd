-- the thinkers that are left give what all of the stretch give
use Rattle.std.proofs.Common.{◌≡◌, ◌≤◌, ◌-◌, length}
use Rattle.std.specs.List.{range_with_len}
use Rattle.cow_world.specs.Flat.{parts}
use Rattle.cow_world.specs.Fits.{Fits}
use Rattle.cow_world.specs.Outcome.{each_from}
use Rattle.cow_world.specs.Stretches.{places}
use Rattle.mover_run.specs.Runs.{run_thinker_of}
use Rattle.mover_run.proofs.runs.run_stretch.Given as goal

abbrev pub invariant-loop-i : goal.invariant-loop-i
invariant-loop-i l = record {
  left : each_from (run_thinker_of l.fn.level l.fn.tables) l.world (range_with_len l.i (l.stretch.end - l.i)) ≡ each_from (run_thinker_of l.fn.level l.fn.tables) l.fn.world (places l.stretch);
  many : length (parts l.world).thinkers ≡ length (parts l.fn.world).thinkers;
  fits : Fits l.fn.level l.fn.tables l.world;
  tics : l.steps.tics ≡ l.fn.steps.tics;
  pages : l.fn.steps.pages ≤ l.steps.pages;
}
