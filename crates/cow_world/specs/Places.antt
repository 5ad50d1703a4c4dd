-- The things of a block, and of many.
use Rattle.std.specs.Prelude.{ℕ, ℤ, Bool, ◌&&◌, List, filter, Option, slice_index_or}
use Rattle.std.specs.List.{flat_map}
use Rattle.std.specs.Ordering.{int_eq}
use Rattle.map_geometry.specs.declared.blocks.Block.{Block}
use Rattle.map_geometry.specs.Blocks.{block_number, is_in_grid, cell_of}
use Rattle.cow_world.specs.declared.records.Thing.{Thing}
use Rattle.cow_world.specs.declared.grid.Grid.{Grid}
use Rattle.cow_world.specs.Flat.{Gridded, parts, thing_at, no_thing}

-- the place lies in this block of the grid
abbrev pub is_in_block : Grid → ℤ → ℤ → Thing → Bool
is_in_block grid column row thing = is_in_grid grid.width grid.height column row && (int_eq (block_number grid.origin_x thing.x) column && int_eq (block_number grid.origin_y thing.y) row)

-- a thing is there, and was not taken
abbrev pub is_present : List Thing → ℕ → Bool
is_present things i = (slice_index_or things i no_thing).present

-- The present linked things of a block, in link order. A block outside the grid has none, and a thing whose place lies
-- outside the grid is in no block.
abbrev pub linked_in : Gridded → ℤ → ℤ → List ℕ
linked_in world column row = filter (λ i. is_present (parts world).things i && is_in_block world.grid column row (thing_at world i)) (parts world).links

-- block by block, the present linked things of that block in link order
abbrev pub things_in : Gridded → List Block → List ℕ
things_in world blocks = flat_map (λ (block : Block). linked_in world block.column block.row) blocks

-- ---- the blocks by number, row by row from the south

-- the number of a block, where the grid has it
abbrev pub cell_at : Grid → ℤ → ℤ → Option ℕ
cell_at grid column row = cell_of grid.width grid.height column row

-- the number of the block in which a place lies
abbrev pub cell_under : Grid → ℤ → ℤ → Option ℕ
cell_under grid x y = cell_at grid (block_number grid.origin_x x) (block_number grid.origin_y y)
