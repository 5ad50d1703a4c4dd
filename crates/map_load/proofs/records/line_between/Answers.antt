use Rattle.std.proofs.Common.{rules, ◌≡◌, refl, w16, w32, ◌∙◌}
use Rattle.std.proofs.lemmas.Int.{to_z-of_z}
use mir.Val.{SFits}
use Rattle.map_load.specs.Spelled.{between}
use Rattle.map_load.proofs.records.line_between.Goals as goal

pub returns : goal.returns
unfolding between
returns c =
    let flags : SFits w16 c.args.line.flags = search rules in
    let tag : SFits w16 c.args.line.tag = search rules in
    let x : SFits w32 c.args.from.x = search rules in
    let y : SFits w32 c.args.from.y = search rules in
    let dx : SFits w32 c.way_between-dx.result = search rules in
    let dy : SFits w32 c.way_between-dy.result = search rules in
    let to_x : SFits w32 c.args.to.x = search rules in
    let to_y : SFits w32 c.args.to.y = search rules in
    let across = simp to_z-of_z at c.way_between-dx.ensures in
    let along = simp to_z-of_z at c.way_between-dy.ensures in
    let slope = simp to_z-of_z at c.slope.ensures in
    simp to_z-of_z (rw (c.box_around.ensures, slope, across, along) refl)
