-- The things of a block and of many, by the fields of a world.
use Rattle.std.proofs.Common.{◌≡◌, ◌<◌, ℕ, ℤ, filter, length, get_or, None, Some, All, [], refl, sym, ap, ◌∙◌}
use Rattle.std.specs.Prelude.{◌&&◌, false}
use Rattle.std.proofs.lemmas.List.Elements.{All-same}
use Rattle.map_geometry.specs.declared.blocks.Block.{Block}
use Rattle.map_geometry.specs.declared.blocks.BlockBox.{BlockBox}
use Rattle.map_geometry.specs.Lists.{Lists}
use Rattle.map_geometry.specs.Blocks.{is_in_grid, blocks_in, cut_to_grid}
use Rattle.map_geometry.proofs.Walked.{cut_blocks}
use Rattle.link_order.specs.Links.{block_things}
use Rattle.cow_world.specs.declared.world.World.TheInside.{Inside}
use Rattle.cow_world.specs.Flat.{Live, Gridded, IsLive, parts, no_thing, grid_of}
use Rattle.cow_world.specs.Kept.{IsKept, things_of, world_in}
use Rattle.cow_world.specs.Places.{cell_at, is_present, is_in_block, linked_in, things_in}
use Rattle.cow_world.proofs.Writes.{is_live, parts_are, linked_by_fields}
use Rattle.cow_world.proofs.Cells.{present_in, none_outside, all_there}

module _ (inside : Inside) (world : Gridded) (seen : world_in inside ≡ world) (live : IsLive world) (kept : IsKept inside) (column row : ℤ) (block : ℕ) (cell : cell_at inside.grid column row ≡ Some block) where
  -- what the link order has of a block, and is present
  by_fields : filter (is_present inside.lists.things) (block_things block inside.order.order) ≡ filter (λ i. is_present inside.lists.things i && is_in_block inside.grid column row (get_or inside.lists.things i no_thing)) (things_of inside.order.order)
  by_fields = present_in inside.lists.things inside.grid column row block inside.order.order cell (kept.entries (is_live _ _ _ _ seen live))

  pub linked_are : filter (is_present inside.lists.things) (block_things block inside.order.order) ≡ linked_in world column row
  linked_are = by_fields ∙ linked_by_fields _ _ _ _ seen live column row

  pub linked_there : All (λ i. i < length (parts world).things) (linked_in world column row)
  linked_there =
      let There : ℕ → Type 0 = λ i. i < length (parts world).things in
      let things = ap (λ (l : Live). l.things) (parts_are _ _ _ _ seen live) in
      let all = all_there inside.lists.things inside.grid inside.order.order
      (λ i. is_present inside.lists.things i && is_in_block inside.grid column row (get_or inside.lists.things i no_thing))
      (kept.entries (is_live _ _ _ _ seen live)) in
      All-same There _ _ (sym (linked_by_fields _ _ _ _ seen live column row)) (rw (← things) all)

-- a block outside the grid has none
pub linked_none : (world : Gridded) (column row : ℤ) → cell_at world.grid column row ≡ None → linked_in world column row ≡ []
linked_none world column row outside = none_outside (parts world).things world.grid column row (parts world).links outside

-- ---- many blocks

-- blocks outside the grid add none
pub things_cut : (level : Lists) (world : Gridded) (box : BlockBox) → world.grid ≡ grid_of level → things_in world (blocks_in box) ≡ things_in world (blocks_in (cut_to_grid level.width level.height box))
things_cut level world box own =
    cut_blocks (λ (block : Block). linked_in world block.column block.row) level.width level.height (λ column row out. linked_none world column row (outside column row out)) box
  where
    outside : (column row : ℤ) → is_in_grid level.width level.height column row ≡ false → cell_at world.grid column row ≡ None
    outside column row out = rw own (rw out refl)
