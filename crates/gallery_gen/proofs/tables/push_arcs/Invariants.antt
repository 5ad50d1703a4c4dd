use Rattle.std.proofs.Common.{◌≡◌, ◌++◌, ◌+◌, ◌-◌, ◌*◌, length, map, take, drop, replicate}
use Rattle.std.specs.List.{flat_map, range_with_len}
use Rattle.gallery_gen.specs.Tables.{arc_at}
use Rattle.gallery_gen.proofs.tables.push_arcs.Given as goal

abbrev pub invariant-loop-i : goal.invariant-loop-i
invariant-loop-i l = l.out.items ≡ l.fn.out.items ++ flat_map arc_at (range_with_len 0 l.i)
