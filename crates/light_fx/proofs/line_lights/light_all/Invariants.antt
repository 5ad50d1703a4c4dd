use Rattle.std.proofs.Common.{◌≡◌, ◌≤◌, length}
use Rattle.map_geometry.specs.Sectors.{sectors_with_tag, with_tag_from}
use Rattle.cow_world.specs.Fits.{KeepsFit}
use Rattle.light_fx.specs.Lights.{lit}
use Rattle.light_fx.specs.LineLights.{lit_alike}
use Rattle.map_geometry.proofs.Tagged.{Tagged}
use Rattle.light_fx.proofs.line_lights.light_all.Given as goal

-- as many sectors are left
abbrev pub decreases-loop-sector : goal.decreases-loop-sector
decreases-loop-sector l = length (with_tag_from l.level l.fn.tag l.from)

abbrev pub invariant-loop-sector : goal.invariant-loop-sector
invariant-loop-sector l =
    Tagged (λ so_far sector. lit so_far sector l.fn.light) l.fn.level l.fn.tag (lit_alike l.fn.light (sectors_with_tag l.fn.level l.fn.tag) l.fn.world) l.world l.from
    × KeepsFit l.fn.world l.world
    × (l.world.grid ≡ l.fn.world.grid)
    × (l.steps.tics ≡ l.fn.steps.tics)
    × (l.fn.steps.pages ≤ l.steps.pages)
