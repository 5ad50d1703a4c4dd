use Rattle.std.proofs.Common.{rules, FitsSigned, w32, ◌∙◌, ap}
use Rattle.std.proofs.lemmas.Int.{to_z-of_z}
use Rattle.map_geometry.specs.Lists.{Lists}
use Rattle.map_geometry.specs.Blocks.{blocks_in, cut_to_grid}
use Rattle.map_geometry.specs.Level.{lists_of}
use Rattle.map_geometry.proofs.Sound.{size_of, lines_read}
use Rattle.map_geometry.proofs.Walked.{left_columns, cut_right}
use Rattle.map_geometry.proofs.level.Level.blocks_in.Goals as goal

pub invariant_of-result : goal.invariant_of-result
invariant_of-result c =
    let parts = c.self.inside.parts in
    let box = c.cut_to_grid-blocks.result in
    let bottom_fits : FitsSigned w32 box.bottom = search rules in
    let bottom = to_z-of_z w32 box.bottom bottom_fits in
    rw bottom (record { right = cut_right parts.width parts.height c.args.blocks.now box (size_of (lists_of parts) c.self.invariant.parts.level).columns_below c.cut_to_grid-blocks.ensures; row = λ none. none })

pub returns-clause-blocks : goal.returns-clause-blocks
returns-clause-blocks c =
    let box = c.cut_to_grid-blocks.result in
    let left_fits : FitsSigned w32 box.left = search rules in
    let bottom_fits : FitsSigned w32 box.bottom = search rules in
    let left = to_z-of_z w32 box.left left_fits in
    let bottom = to_z-of_z w32 box.bottom bottom_fits in
    rw (left, bottom) (left_columns box box.left ∙ ap blocks_in (c.cut_to_grid-blocks.ensures ∙ ap (λ (l : Lists). cut_to_grid l.width l.height c.args.blocks.now) c.self.view_is))

pub returns-clause-there : goal.returns-clause-there
returns-clause-there c = lines_read (lists_of c.self.inside.parts) c.args.self.now c.self.view_is c.self.invariant.parts.level
