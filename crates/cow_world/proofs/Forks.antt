-- The pages of a world's lists, and the steps that its fork takes.
use Rattle.std.proofs.Common.{◌≡◌, ℕ, ◌+◌, ◌*◌, ◌≤◌, Option, Some, None, refl, arith}
use Rattle.game_trait.specs.declared.shown.Halt.{Halt}
use Rattle.cow_world.specs.declared.world.World.TheInside.{Inside}
use Rattle.cow_world.specs.Flat.{Gridded, page_sum, item_sum}
use Rattle.cow_world.specs.Listed.{pages_of, items_in}
use Rattle.cow_world.specs.Kept.{world_in, IsKept}

-- the sum of the lists' pages; a halted world has none
pages_in : (world : Inside) (halted : Option (ℕ × Halt)) → world.halted ≡ halted → IsKept world → page_sum (world_in world) ≡ pages_of world.lists
pages_in world None is kept = rw is refl
pages_in world (Some end) is kept =
    rw (is, kept.no_sectors end is, kept.no_specials end is, kept.no_things end is, kept.no_thinkers end is) refl

-- and of their items
items_within : (world : Inside) (halted : Option (ℕ × Halt)) → world.halted ≡ halted → IsKept world → item_sum (world_in world) ≡ items_in world.lists
items_within world None is kept = rw is refl
items_within world (Some end) is kept =
    rw (is, kept.no_sectors end is, kept.no_specials end is, kept.no_things end is, kept.no_thinkers end is) refl

-- the steps of a fork of the lists are those of the world's
pub forked_pages : (world : Inside) (seen : Gridded) (old new : ℕ) → world_in world ≡ seen → IsKept world
    → new ≤ old + 2 * pages_of world.lists
    → new ≤ old + 2 * page_sum seen
forked_pages world seen old new view kept lists =
    let sum = pages_in world world.halted refl kept in
    rw (← view) (omega (arith, sum, lists))

-- and so are those of a copy of them
pub copied_items : (world : Inside) (seen : Gridded) (old new : ℕ) → world_in world ≡ seen → IsKept world
    → new ≤ old + items_in world.lists
    → new ≤ old + item_sum seen + 34
copied_items world seen old new view kept lists =
    let sum = items_within world world.halted refl kept in
    rw (← view) (omega (arith, sum, lists))

-- a world of the same fields, each with its meaning, keeps the same
pub kept_again : (world other : Inside) → other.lists ≡ world.lists
    → other.order.order ≡ world.order.order → other.order.blocks ≡ world.order.blocks
    → other.acted.items ≡ world.acted.items → other.player ≡ world.player → other.exited ≡ world.exited
    → other.halted ≡ world.halted → other.grid ≡ world.grid → IsKept world → IsKept other
kept_again world other lists order blocks acted player exited halted grid kept = record {
  movers = rw lists kept.movers;
  thinkers = rw lists kept.thinkers;
  player = rw (player, lists) kept.player;
  acted = rw (lists, acted) kept.acted;
  exited = rw exited kept.exited;
  few_sectors = rw lists kept.few_sectors;
  few_things = rw lists kept.few_things;
  few_thinkers = rw lists kept.few_thinkers;
  entries = rw (halted, lists, grid, order) kept.entries;
  blocks = rw (halted, blocks, grid) kept.blocks;
  no_sectors = rw (halted, lists) kept.no_sectors;
  no_specials = rw (halted, lists) kept.no_specials;
  no_things = rw (halted, lists) kept.no_things;
  no_thinkers = rw (halted, lists) kept.no_thinkers;
}
