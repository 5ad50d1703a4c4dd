-- the end lies behind the first place, and all places before it were made
use Rattle.std.proofs.Common.{◌<◌, ◌≤◌, get_or}
use Rattle.page_store.specs.Over.{seen}
use Rattle.cow_world.specs.KeptThinkers.{no_entry}
use Rattle.cow_world.proofs.kept_thinkers.KeptThinkers.run_end.Given as goal

abbrev pub invariant-loop-i : goal.invariant-loop-i
invariant-loop-i l = record {
  some : (get_or (seen l.fn.base l.fn.self.kept) l.fn.k no_entry).place < l.end;
  there : l.end ≤ l.fn.self.made;
}
