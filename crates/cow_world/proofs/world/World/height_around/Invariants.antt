-- what the lines so far give
use Rattle.std.proofs.Common.{◌≡◌, take}
use Rattle.std.specs.Prelude.{fold}
use Rattle.cow_world.specs.Around.{height_across}
use Rattle.cow_world.proofs.world.World.height_around.Given as goal

abbrev pub invariant-loop-line : goal.invariant-loop-line
invariant-loop-line l = l.so_far ≡ fold (height_across l.level l.self l.sector l.sought) l.start (take l.line-index l.line-items)
