-- from here on all entries are joined
use Rattle.link_order.specs.Parts.{IsJoined}
use Rattle.link_order.proofs.base.join.Given as goal

abbrev pub invariant-loop-i : goal.invariant-loop-i
invariant-loop-i l = IsJoined l.entries l.heads l.next l.i
