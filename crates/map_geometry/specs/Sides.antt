-- Which side of a way a place is on, and where two ways meet. 0 is the front, the right of the way; 1 is the back.
-- Differences and sums wrap in 32 bits.
use Rattle.std.specs.Prelude.{ℕ, ℤ, pos, ◌+ℤ◌, ◌-ℤ◌, Bool, true, false, not, ◌==◌, int_lt, int_le, Option, Some, None, if◌then◌else◌}
use Rattle.std.specs.Int.{int_div_euclid, is_negative, is_positive}
use Rattle.std.specs.Ordering.{int_eq}
use Rattle.fixed_angle.specs.Fixed.{wrap32, units_of, mul, div}
use Rattle.map_geometry.specs.declared.records.Area.{Area}
use Rattle.map_geometry.specs.declared.records.Slope.{Slope}
use Rattle.map_geometry.specs.declared.records.Slope.TheVariants.{Horizontal, Vertical, Positive, Negative}
use Rattle.map_geometry.specs.declared.records.Line.{Line}
use Rattle.map_geometry.specs.declared.records.Node.{Node}
use Rattle.map_geometry.specs.declared.records.DivLine.{DivLine}

-- the back where the test holds, else the front
abbrev pub back_if : Bool → ℕ
back_if true = 1
back_if false = 0

-- just one of two tests holds
abbrev pub differ : Bool → Bool → Bool
differ true b = not b
differ false b = b

-- a difference and a sum in 32 bits
abbrev pub less : ℤ → ℤ → ℤ
less a b = wrap32 (a -ℤ b)

abbrev pub plus : ℤ → ℤ → ℤ
plus a b = wrap32 (a +ℤ b)

-- a 256th, rounded down
abbrev pub part_of : ℤ → ℤ
part_of n = int_div_euclid n (pos 256)

-- the side of an upright way through x1 that goes up or down by dy
abbrev pub upright_side : ℤ → ℤ → ℤ → ℕ
upright_side x1 dy x = if int_le x x1 then back_if (is_positive dy) else back_if (is_negative dy)

-- the side of a level way through y1 that goes right or left by dx
abbrev pub level_side : ℤ → ℤ → ℤ → ℕ
level_side y1 dx y = if int_le y y1 then back_if (is_negative dx) else back_if (is_positive dx)

-- the front where the right product is below the left one
abbrev pub side_by : ℤ → ℤ → ℕ
side_by left right = back_if (not (int_lt right left))

-- The side of a way from (x1, y1) along (dx, dy), whose side is `slanting` where it is neither upright nor level. A
-- way without length is upright.
abbrev pub side_or : ℤ → ℤ → ℤ → ℤ → ℤ → ℤ → ℕ → ℕ
side_or x1 y1 dx dy x y slanting =
    if int_eq dx (pos 0) then upright_side x1 dy x
    else if int_eq dy (pos 0) then level_side y1 dx y
    else slanting

-- the side of a line
abbrev pub side_of_line : Line → ℤ → ℤ → ℕ
side_of_line line x y =
    side_or line.x line.y line.dx line.dy x y
    (side_by (mul (units_of line.dy) (less x line.x)) (mul (less y line.y) (units_of line.dx)))

-- The side of a slanting way (dx, dy) for a place that lies (px, py) from its start: where just one or three of the
-- four are negative, their signs tell; else two products do.
abbrev pub slanting_side : ℤ → ℤ → ℤ → ℤ → ℤ → ℤ → ℕ
slanting_side dx dy px py left right =
    if differ (differ (is_negative dy) (is_negative px)) (differ (is_negative dx) (is_negative py))
    then back_if (differ (is_negative dy) (is_negative px))
    else side_by left right

-- the side of a node's line
abbrev pub side_of_node : Node → ℤ → ℤ → ℕ
side_of_node node x y =
    side_or node.x node.y node.dx node.dy x y
    (slanting_side node.dx node.dy (less x node.x) (less y node.y)
    (mul (units_of node.dy) (less x node.x)) (mul (less y node.y) (units_of node.dx)))

-- the side of a trace, in which 256ths are multiplied
abbrev pub side_of_trace : DivLine → ℤ → ℤ → ℕ
side_of_trace trace x y =
    side_or trace.x trace.y trace.dx trace.dy x y
    (slanting_side trace.dx trace.dy (less x trace.x) (less y trace.y)
    (mul (part_of trace.dy) (part_of (less x trace.x))) (mul (part_of (less y trace.y)) (part_of trace.dx)))

-- the side on which two corners lie, where it is one side
abbrev pub common_side : ℕ → ℕ → Option ℕ
common_side a b = if a == b then Some a else None

-- The side of a line on which a box lies as a whole. Of a slanting line the two corners count that are farthest
-- from it on either side.
abbrev pub side_of_box : Slope → Line → Area → Option ℕ
side_of_box Horizontal line box = common_side (back_if (differ (int_lt line.y box.top) (is_negative line.dx))) (back_if (differ (int_lt line.y box.bottom) (is_negative line.dx)))
side_of_box Vertical line box = common_side (back_if (differ (int_lt box.right line.x) (is_negative line.dy))) (back_if (differ (int_lt box.left line.x) (is_negative line.dy)))
side_of_box Positive line box = common_side (side_of_line line box.left box.top) (side_of_line line box.right box.bottom)
side_of_box Negative line box = common_side (side_of_line line box.right box.top) (side_of_line line box.left box.bottom)

-- how far apart the directions of two ways are; 0 where they never meet
abbrev pub meeting_den : DivLine → DivLine → ℤ
meeting_den trace line = less (mul (part_of line.dy) trace.dx) (mul (part_of line.dx) trace.dy)

abbrev pub meeting_num : DivLine → DivLine → ℤ
meeting_num trace line = plus (mul (part_of (less line.x trace.x)) line.dy) (mul (part_of (less trace.y line.y)) line.dx)

-- the part of a trace at which a line is met, in fixed point; 0 where the two are parallel
abbrev pub met_at : DivLine → DivLine → ℤ
met_at trace line = if int_eq (meeting_den trace line) (pos 0) then pos 0 else div (meeting_num trace line) (meeting_den trace line)
