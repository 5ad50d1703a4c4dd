-- What a write to the fields of a live world makes of the world.
use Rattle.std.proofs.Common.{◌≡◌, ℕ, ℤ, get_or, Option, Some, None, refl, sym, ap, subst}
use Rattle.std.specs.Prelude.{◌&&◌, filter}
use Rattle.game_trait.specs.declared.shown.Halt.{Halt}
use Rattle.cow_world.specs.declared.grid.Grid.{Grid}
use Rattle.cow_world.specs.Flat.{Live, Gridded, IsLive, parts, with_parts, no_thing}
use Rattle.cow_world.specs.Places.{is_present, is_in_block, linked_in}
use Rattle.cow_world.specs.Kept.{flat_with}

-- a world that is seen to be live was not halted
pub is_live : (end : Option (ℕ × Halt)) (lists : Live) (grid : Grid) (world : Gridded) → record { flat = flat_with end lists; grid = grid } ≡ world → IsLive world → end ≡ None
is_live None lists grid world seen live = refl
is_live (Some end) lists grid world seen live = absurd (subst IsLive (sym seen) live)

-- the lists of a world that is live
pub parts_are : (end : Option (ℕ × Halt)) (lists : Live) (grid : Grid) (world : Gridded) → record { flat = flat_with end lists; grid = grid } ≡ world → IsLive world → lists ≡ parts world
parts_are None lists grid world seen live = ap parts seen
parts_are (Some end) lists grid world seen live = absurd (subst IsLive (sym seen) live)

-- what other lists make of it
pub written : (new : Live → Live) (end : Option (ℕ × Halt)) (lists : Live) (grid : Grid) (world : Gridded) → record { flat = flat_with end lists; grid = grid } ≡ world → IsLive world → record { flat = flat_with end (new lists); grid = grid } ≡ with_parts world (new (parts world))
written new None lists grid world seen live = ap (λ w. with_parts w (new (parts w))) seen
written new (Some end) lists grid world seen live = absurd (subst IsLive (sym seen) live)

-- what is linked in a block, by the fields of a live world
pub linked_by_fields : (end : Option (ℕ × Halt)) (lists : Live) (grid : Grid) (world : Gridded) → record { flat = flat_with end lists; grid = grid } ≡ world → IsLive world → (column row : ℤ) → filter (λ i. is_present lists.things i && is_in_block grid column row (get_or lists.things i no_thing)) lists.links ≡ linked_in world column row
linked_by_fields None lists grid world seen live column row = ap (λ w. linked_in w column row) seen
linked_by_fields (Some end) lists grid world seen live column row = absurd (subst IsLive (sym seen) live)
