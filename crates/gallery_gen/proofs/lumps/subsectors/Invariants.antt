use Rattle.std.proofs.Common.{◌≡◌, ◌++◌, ◌+◌, ◌-◌, ◌*◌, length, map, take, drop, replicate}
use Rattle.std.specs.List.{flat_map, range_with_len}
use Rattle.gallery_gen.specs.Lumps.{word, linedef, sidedefs, vertices, seg, subsector, node_of, sectors_from, blocks}
use Rattle.gallery_gen.proofs.lumps.subsectors.Given as goal

abbrev pub invariant-loop-room : goal.invariant-loop-room
invariant-loop-room l = l.lump.items ≡ flat_map subsector (range_with_len 0 l.room)
