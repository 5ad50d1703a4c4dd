-- what is left from here on gives what the whole gives from the start
use Rattle.std.proofs.Common.{◌≡◌, drop, take, None}
use Rattle.std.specs.Prelude.{fold}
use Rattle.std.specs.List.{filter_map}
use Rattle.map_geometry.specs.Sectors.{lines_of}
use Rattle.cow_world.specs.Around.{higher_across, lesser}
use Rattle.cow_world.proofs.world.World.least_higher.Given as goal

abbrev pub invariant-loop-line : goal.invariant-loop-line
invariant-loop-line l =
    fold lesser l.least (take l.left (filter_map (higher_across l.level l.self l.sector l.own) (drop l.line-index l.line-items)))
    ≡ fold lesser None (take 20 (filter_map (higher_across l.level l.self l.sector l.own) (lines_of l.level l.sector)))
