use Rattle.std.proofs.Common.{◌≡◌, ◌++◌, ◌+◌, ◌-◌, ◌*◌, length, map, take, drop, replicate}
use Rattle.gallery_gen.specs.Lumps.{word, linedef, sidedefs, vertices, seg, subsector, node_of, sectors_from, blocks}
use Rattle.gallery_gen.proofs.lumps.sectors.Given as goal

abbrev pub invariant-loop-tag : goal.invariant-loop-tag
invariant-loop-tag l = l.lump.items ++ sectors_from l.tag (drop l.tag l.rooms) ≡ sectors_from 0 l.rooms
