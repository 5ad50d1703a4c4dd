-- The order in two parts: the latest links, and the base.
use Rattle.std.specs.Prelude.{◌≡◌, ℕ, ◌+◌, ◌<◌, ◌≤◌, Bool, true, false, ◌==◌, List, [], ◌∷◌, ◌++◌, length, filter, drop, All, slice_index_or}
use Rattle.std.specs.List.{list_all}
use Rattle.link_order.specs.declared.linked.Linked.{Linked}
use Rattle.link_order.specs.Links.{is_other, stands_in, EachOnce, IsWithin}

-- an entry in front, and behind it the others without the thing
abbrev pub in_front : Linked → List Linked → List Linked
in_front first order = first ∷ filter (is_other first.thing) order

-- is the first entry of this thing?
abbrev pub begins_with : ℕ → List Linked → Bool
begins_with thing [] = false
begins_with thing (first ∷ rest) = first.thing == thing

-- is it a thing of none of these?
abbrev pub is_fresh : List Linked → Linked → Bool
is_fresh recent linked = list_all (λ own. is_other own.thing linked) recent

-- the whole order: the latest links, and then what is in the base and was not linked since
abbrev pub order_of : List Linked → List Linked → List Linked
order_of recent entries = recent ++ filter (is_fresh recent) entries

-- each thing stands there once, and the blocks of the latest links are the level's
pub record IsOrder (recent entries : List Linked) (blocks : ℕ) : Type 0 where
  pub once : EachOnce (order_of recent entries)
  pub within : All (IsWithin blocks) recent

-- the base: its entries, the last linked first, and how many blocks the level has
pub record Settled : Type 0 where
  pub entries : List Linked
  pub blocks : ℕ

-- the first entry of a block at or after one place stands at another; past the end where there is none
pub record Leads (entries : List Linked) (block from to : ℕ) : Type 0 where
  pub onward : from ≤ to
  pub skips : filter (stands_in block) (drop from entries) ≡ filter (stands_in block) (drop to entries)
  pub here : (d : Linked) → to < length entries → stands_in block (slice_index_or entries to d) ≡ true

-- from a place on, each block has its first entry, and each entry the next one of its block
pub record IsJoined (entries : List Linked) (heads next : List ℕ) (from : ℕ) : Type 0 where
  pub long : length next ≡ length entries
  pub head : (block : ℕ) → block < length heads → Leads entries block from (slice_index_or heads block 0)
  pub after : (block i : ℕ) (d : Linked) → from ≤ i → i < length entries
      → stands_in block (slice_index_or entries i d) ≡ true → Leads entries block (i + 1) (slice_index_or next i 0)

-- the way through a base is whole, and its blocks are the level's
pub record IsBase (entries : List Linked) (heads next : List ℕ) : Type 0 where
  pub joined : IsJoined entries heads next 0
  pub within : All (IsWithin (length heads)) entries
