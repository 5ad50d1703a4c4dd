-- those that are left give what all of the stretch give
use Rattle.std.proofs.Common.{◌≡◌, ◌≤◌, length}
use Rattle.std.specs.Prelude.{fold}
use Rattle.cow_world.specs.Flat.{parts}
use Rattle.cow_world.specs.Fits.{KeepsFit}
use Rattle.cow_world.specs.Stretches.{places}
use Rattle.mover_start.specs.Lifts.{lift_turned}
use Rattle.mover_start.proofs.Turns.{Turned}
use Rattle.mover_start.proofs.stops.turn_stretch.Given as goal

abbrev pub invariant-loop-place : goal.invariant-loop-place
invariant-loop-place l =
    Turned l.level l.tag l.to (fold (lift_turned l.level l.tag l.to) (l.fn.world, l.fn.before) (places l.stretch)) (length (parts l.fn.world).thinkers) l.stretch.end (l.world, l.turned) l.place
    × KeepsFit l.fn.world l.world
    × (l.steps.tics ≡ l.fn.steps.tics)
    × (l.fn.steps.pages ≤ l.steps.pages)
