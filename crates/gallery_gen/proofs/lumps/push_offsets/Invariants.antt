use Rattle.std.proofs.Common.{◌≡◌, ◌++◌, ◌+◌, ◌-◌, ◌*◌, length, map, take, drop, replicate}
use Rattle.std.specs.List.{flat_map, range_with_len}
use Rattle.gallery_gen.specs.Lumps.{word, linedef, sidedefs, vertices, seg, subsector, node_of, sectors_from, blocks}
use Rattle.gallery_gen.proofs.lumps.push_offsets.Given as goal

abbrev pub invariant-loop-block : goal.invariant-loop-block
invariant-loop-block l = l.out.items ≡ l.fn.out.items ++ flat_map (λ block. word (4 + blocks l.rooms)) (range_with_len 0 l._block)
