-- The lines in blocks.
use Rattle.std.specs.Prelude.{ℕ, ◌==◌, not, List, [], ◌∷◌, filter, Option, option_map}
use Rattle.std.specs.List.{flat_map}
use Rattle.map_geometry.specs.Lists.{Lists, nth_cell}
use Rattle.map_geometry.specs.Blocks.{block_lines, cell_of}
use Rattle.map_geometry.specs.declared.blocks.Block.{Block}

-- the place of a block's list among the words; none outside the grid
unfoldable pub place_of : Lists → Block → Option ℕ
place_of l block = option_map (nth_cell l) (cell_of l.width l.height block.column block.row)

-- the lists of blocks, joined; blocks outside the grid have none, and a line may stand in several
abbrev pub near_all : Lists → List Block → List ℕ
near_all l blocks = flat_map (λ block. block_lines l block.column block.row) blocks

-- the elements of a list, each at its first place alone
abbrev pub first_ones : List ℕ → List ℕ
first_ones [] = []
first_ones (x ∷ xs) = x ∷ filter (λ y. not (y == x)) (first_ones xs)

-- the lines in blocks: their lists joined, without later repeats
abbrev pub near : Lists → List Block → List ℕ
near l blocks = first_ones (near_all l blocks)
