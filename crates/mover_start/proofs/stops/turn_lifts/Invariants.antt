-- those that are left give what all give from the first
use Rattle.std.proofs.Common.{◌≡◌, ◌≤◌, ◌-◌, length}
use Rattle.cow_world.specs.Flat.{parts}
use Rattle.cow_world.specs.Fits.{KeepsFit}
use Rattle.mover_start.specs.Lifts.{lifts_turned}
use Rattle.mover_start.proofs.Turns.{Turned}
use Rattle.mover_start.proofs.stops.turn_lifts.Given as goal

abbrev pub decreases-loop-from : goal.decreases-loop-from
decreases-loop-from l = l.all - l.from

abbrev pub invariant-loop-from : goal.invariant-loop-from
invariant-loop-from l =
    Turned l.level l.tag l.to (lifts_turned l.level l.tag l.to l.fn.world) (length (parts l.fn.world).thinkers) (length (parts l.fn.world).thinkers) (l.world, l.turned) l.from
    × KeepsFit l.fn.world l.world
    × (l.from ≤ length (parts l.fn.world).thinkers)
    × (l.steps.tics ≡ l.fn.steps.tics)
    × (l.fn.steps.pages ≤ l.steps.pages)
