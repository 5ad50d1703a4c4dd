use Rattle.std.proofs.Common.{◌≡◌, sym, ap, ◌∙◌, rules, FitsSigned, w32, length}
use Rattle.std.proofs.lemmas.Int.{to_z-of_z}
use Rattle.map_geometry.specs.Blocks.{span, blocks_in}
use Rattle.block_walk.proofs.Counts.{blocks_length, cut_left, cut_bottom}
use Rattle.block_walk.proofs.blocks.block_count.Goals as goal

pub span_length-columns-requires : goal.span_length-columns-requires
span_length-columns-requires c =
    let fits : FitsSigned w32 c.cut-blocks.result.left = search rules in
    rw (to_z-of_z w32 c.cut-blocks.result.left fits, c.cut-blocks.ensures) (cut_left c.args.level.now.width c.args.level.now.height c.args.blocks.now)

pub span_length-rows-requires : goal.span_length-rows-requires
span_length-rows-requires c =
    let fits : FitsSigned w32 c.cut-blocks.result.bottom = search rules in
    rw (to_z-of_z w32 c.cut-blocks.result.bottom fits, c.cut-blocks.ensures) (cut_bottom c.args.level.now.width c.args.level.now.height c.args.blocks.now)

pub returns : goal.returns
returns c =
    let cut = c.cut-blocks.result in
    let left : FitsSigned w32 c.cut-blocks.result.left = search rules in
    let right : FitsSigned w32 c.cut-blocks.result.right = search rules in
    let bottom : FitsSigned w32 c.cut-blocks.result.bottom = search rules in
    let top : FitsSigned w32 c.cut-blocks.result.top = search rules in
    let columns : c.from.result ≡ length (span cut.left cut.right) = c.from.ensures ∙ (rw (to_z-of_z w32 cut.left left, to_z-of_z w32 cut.right right) at c.span_length-columns.ensures.count) in
    let rows : c.from-2.result ≡ length (span cut.bottom cut.top) = c.from-2.ensures ∙ (rw (to_z-of_z w32 cut.bottom bottom, to_z-of_z w32 cut.top top) at c.span_length-rows.ensures.count) in
    rw (columns, rows) (sym (blocks_length cut) ∙ ap (λ box. length (blocks_in box)) c.cut-blocks.ensures)
