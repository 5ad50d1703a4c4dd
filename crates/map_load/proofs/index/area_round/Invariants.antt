use Rattle.std.proofs.Common.{◌≡◌, Some, drop}
use Rattle.std.specs.List.{fold}
use Rattle.map_geometry.specs.Lists.{nth_line}
use Rattle.map_geometry.specs.Level.{lists_of}
use Rattle.map_geometry.specs.Sectors.{area_of, holding}
use Rattle.map_load.proofs.index.area_round.Given as goal

abbrev pub invariant-loop-line : goal.invariant-loop-line
invariant-loop-line l = fold (λ held i. Some (holding held (nth_line (lists_of l.parts) i).area)) l.area (drop l.line-index l.lines) ≡ area_of (lists_of l.parts) l.lines
