use Rattle.std.proofs.Common.{◌≡◌, ◌++◌, length}
use Rattle.block_walk.specs.Near.{near_all}
use Rattle.block_walk.proofs.near.NearLinesIterator.next.Given as goal

abbrev pub invariant-loop-self : goal.invariant-loop-self
invariant-loop-self l =
    l.self-inside.list.now ++ near_all l.self-inside.level.now l.self-inside.blocks ≡ l.initial.self-inside.list.now ++ near_all l.initial.self-inside.level.now l.initial.self-inside.blocks

abbrev pub decreases-loop-self : goal.decreases-loop-self
decreases-loop-self l = length l.self-inside.blocks
