use Rattle.std.proofs.Common.{◌≡◌}
use Rattle.map_geometry.specs.Sectors.{with_tag_from}
use Rattle.map_geometry.proofs.level.Level.next_with_tag.Given as goal

abbrev pub invariant-loop-sector : goal.invariant-loop-sector
invariant-loop-sector l = with_tag_from l.fn.self l.fn.tag l.fn.from ≡ with_tag_from l.fn.self l.fn.tag l.sector
