use Rattle.std.proofs.Common.{◌≡◌, ◌≤◌, pos, length}
use Rattle.map_geometry.specs.Sectors.{sectors_with_tag, with_tag_from}
use Rattle.cow_world.specs.Fits.{KeepsFit}
use Rattle.light_fx.specs.LineLights.{lit_greatest, turned_to_greatest}
use Rattle.map_geometry.proofs.Tagged.{Tagged}
use Rattle.light_fx.proofs.line_lights.light_greatest.Given as goal

-- as many sectors are left
abbrev pub decreases-loop-sector : goal.decreases-loop-sector
decreases-loop-sector l = length (with_tag_from l.level l.fn.tag l.from)

abbrev pub invariant-loop-sector : goal.invariant-loop-sector
invariant-loop-sector l =
    Tagged (turned_to_greatest l.fn.level) l.fn.level l.fn.tag (lit_greatest l.fn.level (sectors_with_tag l.fn.level l.fn.tag) (l.fn.world, pos 0)) (l.world, l.greatest) l.from
    × KeepsFit l.fn.world l.world
    × (l.world.grid ≡ l.fn.world.grid)
    × (l.steps.tics ≡ l.fn.steps.tics)
    × (l.fn.steps.pages ≤ l.steps.pages)
