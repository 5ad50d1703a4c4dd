-- the lifts so far and those that are left
use Rattle.std.proofs.Common.{◌≡◌, ◌≤◌, ◌+◌, ◌-◌, drop, length}
use Rattle.cow_world.specs.Flat.{parts}
use Rattle.cow_world.specs.Thinkers.{lift_count}
use Rattle.mover_start.proofs.lifts.lift_count.Given as goal

abbrev pub decreases-loop-from : goal.decreases-loop-from
decreases-loop-from l = l.all - l.from

abbrev pub invariant-loop-from : goal.invariant-loop-from
invariant-loop-from l =
    (l.count + lift_count (drop l.from (parts l.world).thinkers) ≡ lift_count (parts l.world).thinkers)
    × (l.count ≤ l.from)
    × (l.from ≤ length (parts l.world).thinkers)
