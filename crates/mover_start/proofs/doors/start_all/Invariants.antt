use Rattle.std.proofs.Common.{◌≡◌, ◌≤◌, length}
use Rattle.map_geometry.specs.Sectors.{with_tag_from}
use Rattle.cow_world.specs.Fits.{KeepsFit}
use Rattle.mover_start.specs.Begun.{started_in, started_all}
use Rattle.mover_start.specs.Doors.{door_started}
use Rattle.mover_start.proofs.Tagwise.{TagsLeft}
use Rattle.mover_start.proofs.doors.start_all.Given as goal

-- as many sectors are left
abbrev pub decreases-loop-sector : goal.decreases-loop-sector
decreases-loop-sector l = length (with_tag_from l.level l.fn.tag l.from)

abbrev pub invariant-loop-sector : goal.invariant-loop-sector
invariant-loop-sector l =
    TagsLeft (started_in (door_started l.fn.kind l.level)) l.level l.fn.tag (started_all (door_started l.fn.kind l.level) l.level l.fn.tag l.fn.world) (l.world, l.started) l.from
    × KeepsFit l.fn.world l.world
    × (l.steps.tics ≡ l.fn.steps.tics)
    × (l.fn.steps.pages ≤ l.steps.pages)
