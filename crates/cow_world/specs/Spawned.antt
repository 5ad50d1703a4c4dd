-- Things that are linked one after the other, before any other was.
use Rattle.std.specs.Prelude.{ℕ, List, [], ◌∷◌, ◌++◌, fold, slice_index_or}
use Rattle.link_order.specs.declared.linked.Linked.{Linked}
use Rattle.cow_world.specs.declared.records.Thing.{Thing}
use Rattle.cow_world.specs.declared.grid.Grid.{Grid}
use Rattle.cow_world.specs.Flat.{Gridded, thing_at, no_thing, link}
use Rattle.cow_world.specs.Places.{cell_under}

-- a thing linked where it stands
abbrev pub link_here : Gridded → ℕ → Gridded
link_here world thing = link world thing (thing_at world thing).x (thing_at world thing).y

-- things linked where they stand, one after the other
abbrev pub link_all : Gridded → List ℕ → Gridded
link_all world things = fold link_here world things

-- what each of a list gives, the last first
abbrev pub latest : {X : Type 0} → (ℕ → X) → List ℕ → List X
latest of [] = []
latest of (x ∷ xs) = latest of xs ++ of x ∷ []

-- the entry of a thing in the block where it stands
abbrev pub entry_at : List Thing → Grid → ℕ → Linked
entry_at things grid thing = record { thing = thing; block = cell_under grid (slice_index_or things thing no_thing).x (slice_index_or things thing no_thing).y }
