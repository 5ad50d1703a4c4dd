-- the records so far
use Rattle.std.proofs.Common.{◌≡◌, map, take}
use Rattle.cow_world.specs.Flat.{special_from}
use Rattle.cow_world.proofs.world.opening_specials.Given as goal

abbrev pub invariant-loop-i : goal.invariant-loop-i
invariant-loop-i l = l.specials.items ≡ map special_from (take l.i l.level.lines)
