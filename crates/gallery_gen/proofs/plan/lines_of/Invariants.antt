use Rattle.std.proofs.Common.{◌≡◌, ◌++◌, ◌+◌, ◌-◌, ◌*◌, length, map, take, drop, replicate}
use Rattle.std.specs.List.{flat_map, range_with_len}
use Rattle.gallery_gen.specs.Plan.{room_of, walls, ends, join}
use Rattle.gallery_gen.proofs.plan.lines_of.Given as goal

abbrev pub invariant-loop-room : goal.invariant-loop-room
invariant-loop-room l = l.lines.items ≡ flat_map walls (range_with_len 0 l.room)

abbrev pub invariant-loop-room-2 : goal.invariant-loop-room-2
invariant-loop-room-2 l = l.lines.items ≡ (flat_map walls (range_with_len 0 l.rooms) ++ ends l.rooms) ++ map (join l.rooms) (range_with_len 0 l.room)
