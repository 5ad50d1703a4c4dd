use Rattle.std.proofs.Common.{◌≡◌, ◌++◌, ◌+◌, ◌-◌, ◌*◌, length, map, take, drop, replicate}
use Rattle.std.specs.List.{flat_map, range_with_len}
use Rattle.gallery_gen.specs.Lumps.{word, linedef, sidedefs, vertices, seg, subsector, node_of, sectors_from, blocks}
use Rattle.gallery_gen.proofs.lumps.linedefs.Given as goal

abbrev pub invariant-loop-line : goal.invariant-loop-line
invariant-loop-line l = l.lump.items ≡ flat_map linedef (take l.line-index l.lines)
