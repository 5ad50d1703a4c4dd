-- The lists of a world, apart from its numbers.
use Rattle.std.specs.Prelude.{ℕ, ◌+◌, List, [], length, slice_set}
use Rattle.std.specs.Arc.{arc_value}
use Rattle.page_store.specs.Pages.{page_count}
use Rattle.page_store.specs.Over.{seen, IsOver}
use Rattle.cow_world.specs.declared.records.Sector.{Sector}
use Rattle.cow_world.specs.declared.records.Thing.{Thing}
use Rattle.cow_world.specs.declared.records.Thinker.{Thinker}
use Rattle.cow_world.specs.declared.lists.Bases.{Bases}
use Rattle.cow_world.specs.declared.lists.Lists.TheInside.{Inside}
use Rattle.cow_world.specs.declared.kept_thinkers.KeptThinkers.{KeptThinkers}
use Rattle.cow_world.specs.Beside.{IsBeside}
use Rattle.cow_world.specs.KeptThinkers.{thinkers_in, IsKeptThinkers}

pub record Listed : Type 0 where
  pub sectors : List Sector
  pub specials : List ℕ
  pub things : List Thing
  pub thinkers : List Thinker

abbrev pub no_lists : Listed
no_lists = record { sectors = []; specials = []; things = []; thinkers = [] }

-- lists of which nothing was written since they have their bases, with thinkers over theirs
abbrev pub lists_of : Bases → KeptThinkers → Listed
lists_of bases thinkers = record { sectors = bases.sectors.items; specials = bases.specials.items; things = bases.things.items; thinkers = thinkers_in bases.thinkers.items thinkers }

-- each list is what its base and its pages make of it, with one thing laid over the others
abbrev pub listed_in : Inside → Listed
listed_in lists = record {
  sectors = seen (arc_value lists.bases).sectors.items lists.sectors;
  specials = seen (arc_value lists.bases).specials.items lists.specials;
  things = slice_set (seen (arc_value lists.bases).things.items lists.things) lists.place lists.own;
  thinkers = thinkers_in (arc_value lists.bases).thinkers.items lists.thinkers;
}

-- the pages of each list are laid over its base, and the thing that is laid over is there, unless it is none
pub record IsListed (lists : Inside) : Type 0 where
  pub sectors : IsOver (arc_value lists.bases).sectors.items lists.sectors
  pub specials : IsOver (arc_value lists.bases).specials.items lists.specials
  pub things : IsOver (arc_value lists.bases).things.items lists.things
  pub thinkers : IsKeptThinkers (arc_value lists.bases).thinkers.items lists.thinkers
  pub beside : IsBeside (seen (arc_value lists.bases).things.items lists.things) lists.place

-- how many pages the lists take together
abbrev pub pages_of : Listed → ℕ
pages_of lists = page_count (length lists.sectors) + page_count (length lists.specials) + page_count (length lists.things) + page_count (length lists.thinkers)

-- how many items they have together
abbrev pub items_in : Listed → ℕ
items_in lists = length lists.sectors + length lists.specials + length lists.things + length lists.thinkers
