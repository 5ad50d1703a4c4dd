use Rattle.std.proofs.Common.{◌≡◌, ◌≤◌}
use Rattle.light_fx.proofs.Lamps.{Played}
use Rattle.light_fx.proofs.lights.run_lights.Given as goal

abbrev pub invariant-loop-i : goal.invariant-loop-i
invariant-loop-i l =
    Played l.fn.tables l.fn.world l.world l.i
    × (l.world.grid ≡ l.fn.world.grid)
    × (l.steps.tics ≡ l.fn.steps.tics)
    × (l.fn.steps.pages ≤ l.steps.pages)
