-- A list in pages.
use Rattle.std.specs.Prelude.{◌≡◌, ℕ, ◌+◌, ◌*◌, ◌/◌, ◌<◌, ◌≤◌, ◌==◌, List, [], ◌∷◌, map, length, take, drop, if◌then◌else◌}
use Rattle.std.specs.List.{flat_map}
use Rattle.std.specs.Arc.{arc_value}
use Rattle.page_store.specs.declared.page.Page.{Page}
use Rattle.page_store.specs.declared.page.Page.TheVariants.{Under, Owned, Shared}
use Rattle.page_store.specs.declared.settled.Named.{Named}
use Rattle.page_store.specs.declared.settled.Named.TheVariants.{Based, Shared as Tabled}

-- the items of a page as a fork found it: so many of the base from a place on, or the page's own
abbrev pub named_items : {T : Type 0} → List T → Named T → List T
named_items base (Based start) = take 32 (drop start base)
named_items base (Tabled items) = (arc_value items).items

-- the items of each
abbrev pub named_pieces : {T : Type 0} → List T → List (Named T) → List (List T)
named_pieces base table = map (named_items base) table

-- the items of a page over a list: those of the list's page in which a place is, or the page's own
abbrev pub items_of : {T : Type 0} → List T → Page T → List T
items_of under (Under start) = take 32 (drop (32 * (start / 32)) under)
items_of under (Owned items) = items.items
items_of under (Shared items) = (arc_value items).items

-- the items of each page
abbrev pub pieces_of : {T : Type 0} → List T → List (Page T) → List (List T)
pieces_of under pages = map (items_of under) pages

-- the pieces one after the other
abbrev pub joined : {T : Type 0} → List (List T) → List T
joined pieces = flat_map (λ piece. piece) pieces

-- each piece but the last has 32 items, and the last has 1 to 32
abbrev pub ArePages : {T : Type 0} → List (List T) → Type 0
ArePages [] = Unit {0}
ArePages (piece ∷ []) = (0 < length piece) × (length piece ≤ 32)
ArePages (piece ∷ next ∷ rest) = (length piece ≡ 32) × ArePages (next ∷ rest)

-- The items of a store: those of its pages. A store that was not written since its last fork has no pages, and the items
-- that it had then, unless it was emptied.
abbrev pub seen_in : {T : Type 0} → List T → List (Page T) → ℕ → List T
seen_in under [] len = if len == 0 then [] else under
seen_in under (page ∷ pages) len = joined (pieces_of under (page ∷ pages))

-- the pages of a store: they are in order, and so many items are in it
pub record IsStore {T : Type 0} (under : List T) (pages : List (Page T)) (len : ℕ) : Type 0 where
  pub paged : ArePages (pieces_of under pages)
  pub counted : length (seen_in under pages len) ≡ len

-- pages that have all items of a store
pub record IsLaidOut {T : Type 0} (pieces : List (List T)) (len : ℕ) : Type 0 where
  pub paged : ArePages pieces
  pub counted : length (joined pieces) ≡ len

-- how many pages so many items take
abbrev pub page_count : ℕ → ℕ
page_count len = (len + 31) / 32
