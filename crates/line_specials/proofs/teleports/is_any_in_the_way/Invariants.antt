-- one of those that are left is in the way exactly where one of all is
use Rattle.std.proofs.Common.{◌≡◌, drop}
use Rattle.std.specs.List.{list_any}
use Rattle.line_specials.specs.Teleports.{is_in_the_way}
use Rattle.line_specials.proofs.teleports.is_any_in_the_way.Given as goal

abbrev pub invariant-loop-thing : goal.invariant-loop-thing
invariant-loop-thing l = list_any (is_in_the_way l.tables l.world l.x l.y) (drop l.thing-index l.near) ≡ list_any (is_in_the_way l.tables l.world l.x l.y) l.near
