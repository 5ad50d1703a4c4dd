-- the thinkers that are left give what all give from the first
use Rattle.std.proofs.Common.{◌≡◌, ◌≤◌, ◌-◌, length}
use Rattle.std.specs.List.{range_with_len}
use Rattle.cow_world.specs.Flat.{parts}
use Rattle.cow_world.specs.Fits.{Fits}
use Rattle.cow_world.specs.Outcome.{each_from}
use Rattle.mover_run.specs.Runs.{run_thinker_of, run_thinkers_of}
use Rattle.mover_run.proofs.runs.run_all.Given as goal

abbrev pub decreases-loop-from : goal.decreases-loop-from
decreases-loop-from l = l.all - l.from

abbrev pub invariant-loop-from : goal.invariant-loop-from
invariant-loop-from l = record {
  left : each_from (run_thinker_of l.fn.level l.fn.tables) l.world (range_with_len l.from (length (parts l.fn.world).thinkers - l.from)) ≡ run_thinkers_of l.fn.level l.fn.tables l.fn.world;
  many : length (parts l.world).thinkers ≡ length (parts l.fn.world).thinkers;
  within : l.from ≤ length (parts l.fn.world).thinkers;
  fits : Fits l.fn.level l.fn.tables l.world;
  tics : l.steps.tics ≡ l.fn.steps.tics;
  pages : l.fn.steps.pages ≤ l.steps.pages;
}
