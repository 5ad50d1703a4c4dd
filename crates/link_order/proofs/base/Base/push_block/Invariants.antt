-- what is left from here on gives what the whole gives from the start
use Rattle.std.proofs.Common.{◌≡◌, ◌++◌, ◌-◌, ◌<◌, true, length, drop, get_or, vec_len}
use Rattle.link_order.specs.declared.linked.Linked.{Linked}
use Rattle.link_order.specs.Links.{stands_in}
use Rattle.link_order.proofs.Orders.{fresh_in}
use Rattle.link_order.proofs.base.Base.push_block.Given as goal

abbrev pub invariant-loop-at : goal.invariant-loop-at
invariant-loop-at l = record {
  here : (d : Linked) → l.at < length l.self-inside.entries.items
      → stands_in l.block (get_or l.self-inside.entries.items l.at d) ≡ true;
  rest : l.out.items ++ fresh_in l.block l.recent (drop l.at l.self-inside.entries.items)
      ≡ l.fn.out.items ++ fresh_in l.block l.recent l.self-inside.entries.items;
}

abbrev pub decreases-loop-at : goal.decreases-loop-at
decreases-loop-at l = vec_len l.self-inside.entries - l.at
