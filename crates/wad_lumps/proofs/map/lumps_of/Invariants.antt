use Rattle.std.proofs.Common.{◌≡◌, ◌+◌, None, map}
use Rattle.std.specs.List.{range_with_len}
use Rattle.fixed_angle.specs.FirstFault.{FirstFault, for_each}
use Rattle.wad_lumps.specs.Directory.{span_of}
use Rattle.wad_lumps.specs.Map.{lump_check}
use Rattle.wad_lumps.proofs.map.lumps_of.Given as goal

-- the spans so far, whose conditions hold
abbrev pub invariant-loop-k : goal.invariant-loop-k
invariant-loop-k l =
    (l.spans.items ≡ map (λ e. span_of l.bytes (l.label + e)) (range_with_len 1 l.k))
    × FirstFault (for_each l.k (lump_check l.bytes l.label)) None
