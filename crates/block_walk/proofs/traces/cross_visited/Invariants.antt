use Rattle.std.proofs.Common.{◌-◌, ◌≤◌, length}
use Rattle.block_walk.specs.Visits.{visited}
use Rattle.block_walk.specs.Traces.{crossed}
use Rattle.block_walk.proofs.Walks.{IsOnBlocks}
use Rattle.block_walk.proofs.traces.cross_visited.Given as goal

abbrev pub invariant-loop-visit : goal.invariant-loop-visit
invariant-loop-visit l = record {
  on : IsOnBlocks (crossed l.level l.way) l.level l.walked l.initial.met l.met l.initial.out.items l.out.items (visited 64 l.initial.walk) (visited (64 - l._visit) l.walk);
  few : length l.out.items ≤ 128;
}
