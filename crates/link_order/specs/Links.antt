-- The order in which things were linked.
use Rattle.std.specs.Prelude.{ℕ, Bool, false, not, ◌==◌, ◌≢◌, ◌<◌, List, ◌∷◌, Option, filter, map, AllPairs, IfSome}
use Rattle.std.specs.Option.{option_map_or}
use Rattle.link_order.specs.declared.linked.Linked.{Linked}

-- what is linked, the last linked first; how many links may still be made without memory; and how many
-- blocks the level has
pub record Links : Type 0 where
  pub order : List Linked
  pub room : ℕ
  pub blocks : ℕ

-- is another thing linked here?
abbrev pub is_other : ℕ → Linked → Bool
is_other thing linked = not (linked.thing == thing)

-- the order after a link: that thing first, and then the others as they stood
abbrev pub linked_first : ℕ → Option ℕ → List Linked → List Linked
linked_first thing block order = record { thing = thing; block = block } ∷ filter (is_other thing) order

-- each thing stands there once
abbrev pub EachOnce : List Linked → Type 0
EachOnce order = AllPairs (λ one other. one.thing ≢ other.thing) order

-- is it linked in this block?
abbrev pub stands_in : ℕ → Linked → Bool
stands_in block linked = option_map_or (λ b. b == block) linked.block false

-- the things of a block, in the order of linking
abbrev pub block_things : ℕ → List Linked → List ℕ
block_things block order = map (λ linked. linked.thing) (filter (stands_in block) order)

-- the block, if there is one, is one of so many
abbrev pub IsWithin : ℕ → Linked → Type 0
IsWithin blocks linked = IfSome linked.block (λ b. b < blocks)
