use Rattle.std.proofs.Common.{rules, FitsSigned, w32, refl}
use Rattle.std.proofs.lemmas.Int.{to_z-of_z}
use Rattle.map_geometry.proofs.Ways.{read_back}
use Rattle.map_geometry.proofs.sectors.holding.Goals as goal

pub returns-in-Some : goal.returns-in-Some
returns-in-Some c =
    let held = c.in-Some.held in
    let top : FitsSigned w32 held.top = search rules in
    let bottom : FitsSigned w32 held.bottom = search rules in
    let left : FitsSigned w32 held.left = search rules in
    let right : FitsSigned w32 held.right = search rules in
    let more_top : FitsSigned w32 c.args.area.now.top = search rules in
    let more_bottom : FitsSigned w32 c.args.area.now.bottom = search rules in
    let more_left : FitsSigned w32 c.args.area.now.left = search rules in
    let more_right : FitsSigned w32 c.args.area.now.right = search rules in
    rw (
      c.in-Some.is,
      read_back c.max.result c.max.type_inv,
      c.max.ensures.value,
      read_back c.min.result c.min.type_inv,
      c.min.ensures.value,
      read_back c.min-in-Some.result c.min-in-Some.type_inv,
      c.min-in-Some.ensures.value,
      read_back c.max-in-Some.result c.max-in-Some.type_inv,
      c.max-in-Some.ensures.value,
      to_z-of_z w32 held.top top,
      to_z-of_z w32 held.bottom bottom,
      to_z-of_z w32 held.left left,
      to_z-of_z w32 held.right right,
      to_z-of_z w32 c.args.area.now.top more_top,
      to_z-of_z w32 c.args.area.now.bottom more_bottom,
      to_z-of_z w32 c.args.area.now.left more_left,
      to_z-of_z w32 c.args.area.now.right more_right,
    ) refl
