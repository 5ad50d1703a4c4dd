use Rattle.std.proofs.Common.{◌≡◌, ◌++◌, ◌+◌, ◌-◌, ◌*◌, length, map, take, drop, replicate}
use Rattle.std.specs.List.{flat_map, range_with_len}
use Rattle.gallery_gen.specs.Lumps.{word, linedef, sidedefs, vertices, seg, subsector, node_of, sectors_from, blocks}
use Rattle.gallery_gen.proofs.lumps.nodes.Given as goal

abbrev pub invariant-loop-node : goal.invariant-loop-node
invariant-loop-node l = l.lump.items ≡ flat_map node_of (range_with_len 0 l.node)
