-- what is left from here on gives what the whole gives from the start
use Rattle.std.proofs.Common.{◌≡◌, ◌<◌, ◌++◌, All, length}
use Rattle.map_geometry.specs.Blocks.{blocks_in}
use Rattle.cow_world.specs.Flat.{parts}
use Rattle.cow_world.specs.Places.{things_in}
use Rattle.cow_world.proofs.world.World.things_in.Given as goal

abbrev pub invariant-loop-block : goal.invariant-loop-block
invariant-loop-block l = record {
  left : l.out.items ++ things_in l.self l.block-iterator ≡ l.fn.out.items ++ things_in l.self (blocks_in l.blocks);
  there : All (λ thing. thing < length (parts l.self).things) (things_in l.self l.block-iterator) → All (λ thing. thing < length (parts l.self).things) (things_in l.self (blocks_in l.blocks));
}
