use Rattle.dsda_cli.proofs.OrderLemmas.{ReadSoFar}
use Rattle.dsda_cli.proofs.order.read_order.Given as goal

-- the words so far name these hands
abbrev pub invariant-loop-at : goal.invariant-loop-at
invariant-loop-at l = ReadSoFar l.bytes l.at l.hands.items
