-- the present ones so far were appended
use Rattle.std.proofs.Common.{◌≡◌, ◌++◌, take}
use Rattle.std.specs.List.{filter}
use Rattle.cow_world.specs.Places.{is_present}
use Rattle.cow_world.proofs.links.push_present.Given as goal

abbrev pub invariant-loop-thing : goal.invariant-loop-thing
invariant-loop-thing l = l.out.items ≡ l.fn.out.items ++ filter (is_present l.lists.things) (take l.thing-index l.linked)
