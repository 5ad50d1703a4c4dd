use Rattle.std.proofs.Common.{rules, FitsSigned, w32, refl}
use Rattle.std.proofs.lemmas.Int.{to_z-of_z}
use Rattle.map_geometry.proofs.Ways.{read_back}
use Rattle.map_geometry.specs.Blocks.{blocks_from}
use Rattle.map_geometry.proofs.blocks.blocks_from.Goals as goal

pub returns : goal.returns
unfolding blocks_from
returns c =
    let left : FitsSigned w32 c.args.area.now.left = search rules in
    let right : FitsSigned w32 c.args.area.now.right = search rules in
    let bottom : FitsSigned w32 c.args.area.now.bottom = search rules in
    let top : FitsSigned w32 c.args.area.now.top = search rules in
    rw (
      read_back c.block_number.result c.block_number.type_inv,
      read_back c.block_number-2.result c.block_number-2.type_inv,
      read_back c.block_number-3.result c.block_number-3.type_inv,
      read_back c.block_number-4.result c.block_number-4.type_inv,
      c.block_number.ensures,
      c.block_number-2.ensures,
      c.block_number-3.ensures,
      c.block_number-4.ensures,
      to_z-of_z w32 c.args.origin_x c.ranges.origin_x,
      to_z-of_z w32 c.args.origin_y c.ranges.origin_y,
      to_z-of_z w32 c.args.area.now.left left,
      to_z-of_z w32 c.args.area.now.right right,
      to_z-of_z w32 c.args.area.now.bottom bottom,
      to_z-of_z w32 c.args.area.now.top top,
    ) refl
