-- the place is not before the first of the kept that are left, nor behind the last
use Rattle.std.proofs.Common.{ℕ, ◌-◌, ◌<◌, ◌≤◌, length, get_or}
use Rattle.page_store.specs.Over.{seen}
use Rattle.cow_world.specs.KeptThinkers.{no_entry}
use Rattle.cow_world.proofs.kept_thinkers.KeptThinkers.first_from.Given as goal

abbrev pub decreases-loop-low : goal.decreases-loop-low
decreases-loop-low l = l.high - l.low

abbrev pub invariant-loop-low : goal.invariant-loop-low
invariant-loop-low l =
    let kept = seen l.fn.base l.fn.self.kept in
    record {
      order : l.low ≤ l.high;
      within : l.high ≤ length kept;
      before : (k : ℕ) → k < l.low → (get_or kept k no_entry).place < l.fn.place;
      behind : (k : ℕ) → l.high ≤ k → k < length kept → l.fn.place ≤ (get_or kept k no_entry).place;
    }
