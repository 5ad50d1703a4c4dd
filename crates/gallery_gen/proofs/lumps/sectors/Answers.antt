use Rattle.std.proofs.Common.{rules, ◌≡◌, ◌+◌, ◌++◌, drop, get_or, sym, ap, ◌∙◌, append_assoc}
use Rattle.gallery_gen.specs.Lumps.{sector, sectors_from}
use Rattle.gallery_gen.proofs.Each.{no_room, sectors_next}
use Rattle.gallery_gen.proofs.lumps.sectors.Goals as goal

pub loop-tag-preserved : goal.loop-tag-preserved
loop-tag-preserved c =
    let at = c.loop-tag.tag in
    let rooms = c.args.rooms.now in
    let lump = c.loop-tag.lump.items in
    let pushed : c.push_sector.new.out.items ≡ lump ++ sector at (get_or rooms at no_room) = search rules in
    ap (λ out. out ++ sectors_from (at + 1) (drop (at + 1) rooms)) pushed
    ∙ (append_assoc lump (sector at (get_or rooms at no_room)) (sectors_from (at + 1) (drop (at + 1) rooms))
    ∙ (sym (ap (λ rest. lump ++ rest) (sectors_next rooms at c.loop-tag-test.true)) ∙ c.loop-tag.invariant))
