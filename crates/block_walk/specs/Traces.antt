-- The lines that a trace meets. Fractions and lengths are in fixed point, and sums and differences wrap in 32 bits.
use Rattle.std.specs.Prelude.{ℕ, ◌==◌, ℤ, pos, Bool, not, ◌&&◌, ◌||◌, nat_lt, int_lt, int_le, unsigned_abs, List, [], ◌∷◌, fold, filter, Option, Some, None, option_map, if◌then◌else◌}
use Rattle.std.specs.Int.{int_rem_euclid, is_negative}
use Rattle.std.specs.Ordering.{int_eq}
use Rattle.std.specs.List.{filter_map}
use Rattle.map_geometry.specs.declared.records.Line.{Line}
use Rattle.map_geometry.specs.declared.records.DivLine.{DivLine}
use Rattle.map_geometry.specs.Lists.{Lists, nth_line}
use Rattle.map_geometry.specs.Sides.{less, plus, side_of_line, side_of_trace, met_at}
use Rattle.block_walk.specs.declared.walk.Walk.{Walk}
use Rattle.block_walk.specs.Near.{near}
use Rattle.block_walk.specs.Visits.{begin_of, visited}

-- ---- the trace

-- a coordinate right on the border between two blocks is moved by one map unit
abbrev pub off_border : ℤ → ℤ → ℤ
off_border place origin = if int_eq (int_rem_euclid (less place origin) (pos 8388608)) (pos 0) then plus place (pos 65536) else place

-- the way of a trace from (x1, y1) to (x2, y2)
unfoldable pub way_of : Lists → (x1 y1 x2 y2 : ℤ) → DivLine
way_of l x1 y1 x2 y2 = record {
  x = off_border x1 l.origin_x;
  y = off_border y1 l.origin_y;
  dx = less x2 (off_border x1 l.origin_x);
  dy = less y2 (off_border y1 l.origin_y);
}

-- its walk from block to block, which begins where the way does
unfoldable pub walk_of : Lists → DivLine → (x2 y2 : ℤ) → Walk
walk_of l way x2 y2 = begin_of (less way.x l.origin_x) (less way.y l.origin_y) (less x2 l.origin_x) (less y2 l.origin_y)

-- ---- the lines that it crosses

-- longer than 16 map units along one axis or both
abbrev pub is_long : DivLine → Bool
is_long way = nat_lt 1048576 (unsigned_abs way.dx) || nat_lt 1048576 (unsigned_abs way.dy)

-- The ends of a line lie on different sides of a long way. Of a short one the ends lie on different sides of the line.
unfoldable pub is_crossed : DivLine → Line → Bool
is_crossed way line =
    if is_long way
    then not (side_of_trace way line.x line.y == side_of_trace way (plus line.x line.dx) (plus line.y line.dy))
    else not (side_of_line line way.x way.y == side_of_line line (plus way.x way.dx) (plus way.y way.dy))

-- the way that a line leads
abbrev pub as_way : Line → DivLine
as_way line = record { x = line.x; y = line.y; dx = line.dx; dy = line.dy }

-- the part of a way at which it crosses a line, where it does, and not before the way begins
unfoldable pub fraction_at : DivLine → Line → Option ℤ
fraction_at way line = if is_crossed way line && not (is_negative (met_at way (as_way line))) then Some (met_at way (as_way line)) else None

-- the same with the line's number
abbrev pub crossing_of : Lists → DivLine → ℕ → Option (ℤ × ℕ)
crossing_of l way i = option_map (λ fraction. (fraction, i)) (fraction_at way (nth_line l i))

-- of some lines those that a way crosses
abbrev pub crossed : Lists → DivLine → List ℕ → List (ℤ × ℕ)
crossed l way lines = filter_map (crossing_of l way) lines

-- the lines that a way crosses in the blocks that it visits, of which there are 64 at most
unfoldable pub intercepts_on : Lists → DivLine → (x2 y2 : ℤ) → List (ℤ × ℕ)
intercepts_on l way x2 y2 = crossed l way (near l (visited 64 (walk_of l way x2 y2)))

abbrev pub intercepts_of : Lists → (x1 y1 x2 y2 : ℤ) → List (ℤ × ℕ)
intercepts_of l x1 y1 x2 y2 = intercepts_on l (way_of l x1 y1 x2 y2) x2 y2

-- ---- in the order of their fractions

-- pairs in order with one more, behind those whose fraction is not greater
abbrev pub placed : List (ℤ × ℕ) → ℤ × ℕ → List (ℤ × ℕ)
placed [] pair = pair ∷ []
placed (other ∷ pairs) pair = if int_lt pair.0 other.0 then pair ∷ (other ∷ pairs) else other ∷ placed pairs pair

-- pairs by their fractions, the least first; where fractions are equal, in the order in which they stood
abbrev pub in_order : List (ℤ × ℕ) → List (ℤ × ℕ)
in_order pairs = fold placed [] pairs

-- those that lie on the way, up to its end
abbrev pub reached : List (ℤ × ℕ) → List (ℤ × ℕ)
reached pairs = filter (λ pair. int_le pair.0 (pos 65536)) pairs
