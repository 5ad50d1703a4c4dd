use Rattle.std.proofs.Common.{◌≡◌, IfOk, ap, ◌∙◌, subst}
use Rattle.std.specs.Prelude.{fold}
use Rattle.gallery_gen.specs.Wad.{Packed, packed_with, unpacked, file}
use Rattle.gallery_gen.specs.Gallery.{line_lumps, tree_lumps, sector_lumps, lumps_of}
use Rattle.gallery_gen.proofs.making.wad_of.Goals as goal

pub returns : goal.returns
returns c =
    let rooms = c.args.rooms in
    let lines : c.add_lines.new.wad ≡ fold packed_with unpacked (line_lumps rooms) =
    c.in_ok-add_lines.ensures ∙ ap (λ (wad : Packed). fold packed_with wad (line_lumps rooms)) c.new-wad.ensures in
    let tree : c.add_tree.new.wad ≡ fold packed_with (fold packed_with unpacked (line_lumps rooms)) (tree_lumps rooms) =
    c.in_ok-add_tree.ensures ∙ ap (λ (wad : Packed). fold packed_with wad (tree_lumps rooms)) lines in
    let all : c.add_sectors.new.wad ≡ fold packed_with unpacked (lumps_of rooms c.args.drawn.now) =
    c.in_ok-add_sectors.ensures ∙ ap (λ (wad : Packed). fold packed_with wad (sector_lumps rooms c.args.drawn.now)) tree in
    subst (λ (wad : Packed). IfOk c.file.result (λ bytes. bytes.items ≡ file wad)) all c.file.ensures
