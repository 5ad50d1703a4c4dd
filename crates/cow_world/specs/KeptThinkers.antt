-- The thinkers of a world as they are kept: those that have ended may be left out.
use Rattle.std.specs.Prelude.{ℕ, ◌<◌, ◌≤◌, ◌==◌, Bool, true, false, not, List, map, length, find, All, Option, Some, None}
use Rattle.std.specs.List.{range_with_len, AllPairs}
use Rattle.std.specs.Option.{option_or}
use Rattle.page_store.specs.Over.{seen, IsOver}
use Rattle.cow_world.specs.declared.records.Thinker.{Thinker}
use Rattle.cow_world.specs.declared.records.Thinker.TheVariants.{Ended}
use Rattle.cow_world.specs.declared.kept_thinkers.Placed.{Placed}
use Rattle.cow_world.specs.declared.kept_thinkers.KeptThinkers.{KeptThinkers}

abbrev pub has_ended : Thinker → Bool
has_ended Ended = true
has_ended _ = false

abbrev pub is_running : Placed → Bool
is_running entry = not (has_ended entry.thinker)

abbrev pub entry_at : ℕ → Thinker → Placed
entry_at place thinker = record { place = place; thinker = thinker }

abbrev pub no_entry : Placed
no_entry = entry_at 0 Ended

abbrev pub stands_at : ℕ → Placed → Bool
stands_at place entry = entry.place == place

abbrev pub thinker_of : Option Placed → Thinker
thinker_of None = Ended
thinker_of (Some entry) = entry.thinker

-- the thinker at a place: the one that came back to life there, or the one that is kept; where there is none, it has ended
abbrev pub thinker_in : List Placed → List Placed → ℕ → Thinker
thinker_in revived kept place = thinker_of (option_or (find (stands_at place) revived) (find (stands_at place) kept))

-- the thinkers at so many places
abbrev pub spread : ℕ → List Placed → List Placed → List Thinker
spread made revived kept = map (thinker_in revived kept) (range_with_len 0 made)

-- each stands at a later place than those before it
abbrev pub Rise : List Placed → Type 0
Rise kept = AllPairs (λ (a b : Placed). a.place < b.place) kept

-- all places are among those that were made
abbrev pub AreMade : ℕ → List Placed → Type 0
AreMade made entries = All (λ (entry : Placed). entry.place < made) entries

-- what is kept stands in order, all of it was made, and there is no more of it than was made
pub record ArePlaced (made : ℕ) (revived kept : List Placed) : Type 0 where
  pub rise : Rise kept
  pub places : AreMade made kept
  pub others : AreMade made revived
  pub few : length kept ≤ made

-- all thinkers that were made, over the base of those that are kept
abbrev pub thinkers_in : List Placed → KeptThinkers → List Thinker
thinkers_in base list = spread list.made list.revived.items (seen base list.kept)

-- the pages were laid over this base, and what is kept has its places
abbrev pub IsKeptThinkers : List Placed → KeptThinkers → Type 0
IsKeptThinkers base list = IsOver base list.kept × ArePlaced list.made list.revived.items (seen base list.kept)
