use Rattle.std.proofs.Common.{◌≤◌, length}
use Rattle.block_walk.specs.Traces.{crossed}
use Rattle.block_walk.proofs.Ahead.{IsOnList}
use Rattle.block_walk.proofs.traces.cross_list.Given as goal

abbrev pub invariant-loop-at : goal.invariant-loop-at
invariant-loop-at l = record {
  on : IsOnList (crossed l.level l.way) l.level l.place l.at l.initial.met l.met l.initial.out.items l.out.items;
  few : length l.out.items ≤ 128;
}
