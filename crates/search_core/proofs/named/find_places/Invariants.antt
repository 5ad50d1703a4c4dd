-- from here on all places are found
use Rattle.std.proofs.Common.{◌≡◌, length}
use Rattle.search_core.specs.Places.{AreFound}
use Rattle.search_core.proofs.named.find_places.Given as goal

abbrev pub invariant-loop-place : goal.invariant-loop-place
invariant-loop-place l = record {
  long : length l.first ≡ length l.initial.first;
  found : AreFound l.order l.first l.next l.place;
}
