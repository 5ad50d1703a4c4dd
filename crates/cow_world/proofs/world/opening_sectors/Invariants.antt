-- the records so far
use Rattle.std.proofs.Common.{◌≡◌, map, take}
use Rattle.cow_world.specs.Flat.{sector_from}
use Rattle.cow_world.proofs.world.opening_sectors.Given as goal

abbrev pub invariant-loop-i : goal.invariant-loop-i
invariant-loop-i l = l.sectors.items ≡ map sector_from (take l.i l.level.sectors)
