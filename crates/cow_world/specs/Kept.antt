-- What every world keeps true of its fields, and what it is seen as.
use Rattle.std.specs.Prelude.{◌≡◌, ℕ, ◌-◌, ◌*◌, ◌^◌, ◌<◌, ◌≤◌, List, [], length, map, All, Option, Some, None, IfSome, slice_index_or}
use Rattle.game_trait.specs.declared.shown.Halt.{Halt}
use Rattle.link_order.specs.declared.linked.Linked.{Linked}
use Rattle.cow_world.specs.declared.records.Sector.{Sector}
use Rattle.cow_world.specs.declared.records.Thing.{Thing}
use Rattle.cow_world.specs.declared.grid.Grid.{Grid}
use Rattle.cow_world.specs.declared.world.World.TheInside.{Inside}
use Rattle.cow_world.specs.Thinkers.{sector_of}
use Rattle.cow_world.specs.Flat.{Live, Flat, live, halted, Gridded, no_thing}
use Rattle.cow_world.specs.Places.{cell_under}

-- the things of entries of the link order
abbrev pub things_of : List Linked → List ℕ
things_of order = map (λ (entry : Linked). entry.thing) order

abbrev pub lists_in : Inside → Live
lists_in world = record {
  sectors = world.lists.sectors;
  specials = world.lists.specials;
  things = world.lists.things;
  links = things_of world.order.order;
  thinkers = world.lists.thinkers;
  acted = world.acted.items;
  player = world.player;
  rng = world.rng;
  time = world.time;
  tics = world.tics;
  exited = world.exited;
}

-- live with these lists, unless it was halted
abbrev pub flat_with : Option (ℕ × Halt) → Live → Flat
flat_with None lists = live lists
flat_with (Some end) lists = halted end.0 end.1

abbrev pub world_in : Inside → Gridded
world_in world = record { flat = flat_with world.halted (lists_in world); grid = world.grid }

-- an entry of the link order: its thing is there, and its block is that in which the thing's place lies
pub record IsEntry (things : List Thing) (grid : Grid) (entry : Linked) : Type 0 where
  pub there : entry.thing < length things
  pub block : entry.block ≡ cell_under grid (slice_index_or things entry.thing no_thing).x (slice_index_or things entry.thing no_thing).y

-- Each place that the world keeps is in range (the player stands for thing 0 where there is none yet), and its counts fit
-- their type. A halted world has no pages, and nothing is said of its link order.
pub record IsKept (world : Inside) : Type 0 where
  pub movers : All (λ (sector : Sector). IfSome sector.mover (λ mover. mover < length world.lists.thinkers)) world.lists.sectors
  pub thinkers : All (λ thinker. IfSome (sector_of thinker) (λ sector. sector < length world.lists.sectors)) world.lists.thinkers
  pub player : world.player.thing ≤ length world.lists.things - 1
  pub acted : All (λ line. line < length world.lists.specials) world.acted.items
  pub exited : world.exited ≤ 2
  pub few_sectors : length world.lists.sectors < 2 ^ 32
  pub few_things : length world.lists.things < 2 ^ 32
  pub few_thinkers : length world.lists.thinkers < 2 ^ 32
  pub entries : world.halted ≡ None → All (IsEntry world.lists.things world.grid) world.order.order
  pub blocks : world.halted ≡ None → world.order.blocks ≡ world.grid.width * world.grid.height
  pub no_sectors : (end : ℕ × Halt) → world.halted ≡ Some end → world.lists.sectors ≡ []
  pub no_specials : (end : ℕ × Halt) → world.halted ≡ Some end → world.lists.specials ≡ []
  pub no_things : (end : ℕ × Halt) → world.halted ≡ Some end → world.lists.things ≡ []
  pub no_thinkers : (end : ℕ × Halt) → world.halted ≡ Some end → world.lists.thinkers ≡ []
