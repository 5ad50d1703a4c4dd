use Rattle.std.proofs.Common.{◌≡◌, ◌++◌, ◌+◌, ◌-◌, ◌*◌, length, map, take, drop, replicate}
use Rattle.gallery_gen.specs.Plan.{room_of, walls, ends, join}
use Rattle.gallery_gen.proofs.plan.rooms_of.Given as goal

abbrev pub invariant-loop-number : goal.invariant-loop-number
invariant-loop-number l = l.rooms.items ≡ map room_of (take l.number-index l.drawn)
