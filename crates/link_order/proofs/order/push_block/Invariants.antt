-- the things of the block among the entries so far were appended
use Rattle.std.proofs.Common.{◌≡◌, ◌++◌, take}
use Rattle.link_order.specs.Links.{block_things}
use Rattle.link_order.proofs.order.push_block.Given as goal

abbrev pub invariant-loop-linked : goal.invariant-loop-linked
invariant-loop-linked l = l.out.items ≡ l.fn.out.items ++ block_things l.block (take l.linked-index l.entries)
