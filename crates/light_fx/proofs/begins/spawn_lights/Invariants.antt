use Rattle.std.proofs.Common.{◌≡◌, ◌≤◌}
use Rattle.light_fx.proofs.Begun.{Begun}
use Rattle.light_fx.proofs.begins.spawn_lights.Given as goal

abbrev pub invariant-loop-sector : goal.invariant-loop-sector
invariant-loop-sector l =
    Begun l.fn.level l.fn.tables l.fn.world l.world l.sector
    × (l.world.grid ≡ l.fn.world.grid)
    × (l.steps.tics ≡ l.fn.steps.tics)
    × (l.fn.steps.pages ≤ l.steps.pages)
