use Rattle.std.proofs.Common.{length}
use Rattle.cow_world.specs.Flat.{parts}
use Rattle.level_start.specs.Links.{is_linked}
use Rattle.level_start.proofs.Linked.{Sought}
use Rattle.level_start.proofs.links.linked_things.Given as goal

abbrev pub invariant-loop-i : goal.invariant-loop-i
invariant-loop-i l = Sought (is_linked l.fn.tables l.fn.world) (length (parts l.fn.world).things) l.things.items l.i
