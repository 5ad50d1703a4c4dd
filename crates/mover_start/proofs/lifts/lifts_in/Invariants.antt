-- the lifts so far and those that are left
use Rattle.std.proofs.Common.{◌≡◌, ◌≤◌, ◌+◌, drop}
use Rattle.cow_world.specs.Flat.{parts}
use Rattle.cow_world.specs.Thinkers.{lift_count}
use Rattle.mover_start.proofs.lifts.lifts_in.Given as goal

abbrev pub invariant-loop-place : goal.invariant-loop-place
invariant-loop-place l =
    (l.count + lift_count (drop l.place (parts l.world).thinkers) ≡ lift_count (drop l.stretch.start (parts l.world).thinkers))
    × (l.stretch.start + l.count ≤ l.place)
