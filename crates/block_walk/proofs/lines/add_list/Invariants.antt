use Rattle.block_walk.specs.Steps.{itself}
use Rattle.block_walk.proofs.Passed.{IsAtWord}
use Rattle.block_walk.proofs.lines.add_list.Given as goal

abbrev pub invariant-loop-at : goal.invariant-loop-at
invariant-loop-at l = IsAtWord itself l.level l.place l.at l.initial.met l.met l.passed l.initial.out.items l.out.items
