-- The blocks that a trace visits. Sums and differences wrap in 32 bits.
use Rattle.std.specs.Prelude.{ℕ, zero, suc, ℤ, pos, negsuc, ◌-ℤ◌, Bool, ◌&&◌, int_lt, unsigned_abs, List, [], ◌∷◌, if◌then◌else◌}
use Rattle.std.specs.Int.{int_div_euclid, int_rem_euclid}
use Rattle.std.specs.Ordering.{int_eq}
use Rattle.fixed_angle.specs.Fixed.{units_of, mul, div}
use Rattle.map_geometry.specs.Blocks.{blocks_below}
use Rattle.map_geometry.specs.Sides.{less, plus}
use Rattle.map_geometry.specs.declared.blocks.Block.{Block}
use Rattle.block_walk.specs.declared.walk.Axis.{Axis}
use Rattle.block_walk.specs.declared.walk.Walk.{Walk}

-- a length in fixed point with the side of a block as the unit, rounded down
abbrev pub in_blocks : ℤ → ℤ
in_blocks length = int_div_euclid length (pos 128)

-- how far a coordinate lies from the border below it
abbrev pub part_of_block : ℤ → ℤ
part_of_block place = int_rem_euclid (in_blocks place) (pos 65536)

-- how far the way `across` leads for each unit of the length of the way `along`
unfoldable pub slope_between : ℤ → ℤ → ℤ
slope_between along across = div across (pos (unsigned_abs along))

-- An axis with this step and slope, whose first border lies so far away. Places across it begin at `across`.
unfoldable pub axis_by : ℤ → ℤ → ℤ → ℤ → Axis
axis_by step away slope across = record { step = step; crossing = plus (in_blocks across) (mul away slope); slope = slope }

-- The axis along which a trace goes from one coordinate to another, while it goes on the other axis from `across` to
-- `across_to`. Where no border is crossed it has no step, and crossings far apart.
unfoldable pub axis_of : ℤ → ℤ → ℤ → ℤ → Axis
axis_of from to across across_to =
    if int_eq (blocks_below from) (blocks_below to) then axis_by (pos 0) (pos 65536) (pos 16777216) across
    else if int_lt (blocks_below from) (blocks_below to)
    then axis_by (pos 1) (pos 65536 -ℤ part_of_block from) (slope_between (less to from) (less across_to across)) across
    else axis_by (negsuc 0) (part_of_block from) (slope_between (less to from) (less across_to across)) across

-- the beginning of a walk between two places, which are counted from the grid's sides
unfoldable pub begin_of : ℤ → ℤ → ℤ → ℤ → Walk
begin_of x1 y1 x2 y2 = record {
  block = record { column = blocks_below x1; row = blocks_below y1 };
  last = record { column = blocks_below x2; row = blocks_below y2 };
  x = axis_of x1 x2 y1 y2;
  y = axis_of y1 y2 x1 x2;
}

abbrev pub is_at_end : Walk → Bool
is_at_end walk = int_eq walk.block.column walk.last.column && int_eq walk.block.row walk.last.row

-- the axis when the next border was crossed
unfoldable pub moved_of : Axis → Axis
moved_of axis = record axis { crossing = plus axis.crossing axis.slope }

-- the next block across the border between two columns, and across that between two rows
abbrev pub column_next : Walk → Walk
column_next walk = record walk { block = record walk.block { column = plus walk.block.column walk.x.step }; x = moved_of walk.x }

abbrev pub row_next : Walk → Walk
row_next walk = record walk { block = record walk.block { row = plus walk.block.row walk.y.step }; y = moved_of walk.y }

-- the next block; where no border is crossed in this one, the walk stays
unfoldable pub next_of : Walk → Walk
next_of walk =
    if int_eq (units_of walk.x.crossing) walk.block.row then column_next walk
    else if int_eq (units_of walk.y.crossing) walk.block.column then row_next walk
    else walk

-- the blocks of a walk up to the last one, so many at most
unfoldable pub visited : ℕ → Walk → List Block
visited zero walk = []
visited (suc more) walk = walk.block ∷ (if is_at_end walk then [] else visited more (next_of walk))
