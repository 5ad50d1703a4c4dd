use Rattle.std.proofs.Common.{◌≡◌, ℕ, ◌+◌, ◌-◌, ◌*◌, List, [], ◌∷◌, ◌++◌, map, sym, ap, ◌∙◌, append_assoc}
use Rattle.std.specs.List.{flat_map, range_with_len}
use Rattle.gallery_gen.specs.Lumps.{seg}
use Rattle.gallery_gen.proofs.Each.{each_first}
use Rattle.gallery_gen.proofs.lumps.segs.Goals as goal

pub loop-room-preserved : goal.loop-room-preserved
loop-room-preserved c = c.in_ok-push_seg.ensures ∙ (ap (λ lump. lump ++ seg c.loop-room.room) c.loop-room.invariant ∙ each_first seg c.loop-room.room)
