use Rattle.std.proofs.Common.{◌≡◌, take, w16, ◌∙◌}
use Rattle.std.proofs.lemmas.Int.{to_z-of_z}
use Rattle.std.proofs.lemmas.List.{take_all}
use Rattle.map_geometry.specs.Lists.{nth_line}
use Rattle.map_geometry.specs.Sectors.{lines_of, neighbour_across}
use Rattle.cow_world.specs.Flat.{sector_at}
use Rattle.cow_world.specs.Around.{with_light}
use Rattle.cow_world.proofs.Neighbours.{fold_some}
use Rattle.cow_world.proofs.world.World.light_around.Goals as goal

pub returns : goal.returns
returns c =
    let level = c.args.level.now in
    let lines = c.sector_lines-line-items.result.now in
    let whole : take c.loop-line.line-index lines ≡ lines_of level c.args.sector = take_all c.loop-line.line-index lines c.loop-line-test.false ∙ c.sector_lines-line-items.ensures.lines in
    let so_far = simp (whole, to_z-of_z w16 c.args.start c.ranges.start) at c.loop-line.invariant in
    so_far ∙ fold_some (λ so_far other. with_light c.args.sought so_far (sector_at c.args.self.now other)) (λ i. neighbour_across c.args.sector (nth_line level i)) c.args.start (lines_of level c.args.sector)
