-- The lines that a box lies on, and what they leave open.
use Rattle.std.specs.Prelude.{ℕ, ◌==◌, ℤ, Bool, true, false, not, ◌&&◌, ◌||◌, int_lt, nat_lt, is_none, List, [], ◌∷◌, ◌++◌, length, filter, fold, if◌then◌else◌}
use Rattle.std.specs.List.{take_while, list_any}
use Rattle.std.specs.Int.{int_max, int_min}
use Rattle.map_geometry.specs.declared.records.Area.{Area}
use Rattle.map_geometry.specs.declared.records.Line.{Line}
use Rattle.map_geometry.specs.Lists.{Lists, nth_line}
use Rattle.map_geometry.specs.Sectors.{has_flag}
use Rattle.map_geometry.specs.Sides.{side_of_box}
use Rattle.game_trait.specs.declared.shown.Halt.TheVariants.{Listed}
use Rattle.cow_world.specs.declared.gaps.Gap.{Gap}
use Rattle.cow_world.specs.Flat.{Gridded, line_special_at}
use Rattle.cow_world.specs.Gaps.{gap_of}
use Rattle.cow_world.specs.Outcome.{Outcome, goes, halts}
use Rattle.clip_check.specs.declared.trial.Checked.{Checked}

-- two ways along an axis have a piece in common; where only ends meet they don't
abbrev pub ways_overlap : (low high other_low other_high : ℤ) → Bool
ways_overlap low high other_low other_high = int_lt other_low high && int_lt low other_high

-- two rectangles have an area in common; where only edges meet they don't
abbrev pub overlaps : Area → Area → Bool
overlaps one other = ways_overlap one.left one.right other.left other.right && ways_overlap one.bottom one.top other.bottom other.top

-- the box lies on the line: their rectangles overlap, and no side of the line has all of the box
abbrev pub lies_on : Area → Line → Bool
lies_on box line = overlaps box line.area && is_none (side_of_box line.slope line box)

-- A line blocks where nothing is behind it, with the flag that blocks all, and for all but the player with the flag
-- that blocks monsters.
abbrev pub stops : Bool → Line → Bool
stops player line = is_none line.back || has_flag line 1 || (not player && has_flag line 2)

-- what is asked of a line by its number
pub record Tests : Type 0 where
  pub met : ℕ → Bool
  pub blocks : ℕ → Bool
  pub special : ℕ → Bool
  pub gap : ℕ → Gap

-- of the lines that the box lies on, those before the first that blocks
abbrev pub open_lines : Tests → List ℕ → List ℕ
open_lines tests near = take_while (λ i. not (tests.blocks i)) (filter tests.met near)

-- those of them that have a special are listed
abbrev pub listed_after : Tests → List ℕ → List ℕ → List ℕ
listed_after tests listed near = listed ++ filter tests.special (open_lines tests near)

-- From these heights and lines on: whether no line blocks; the greatest of the floor and what the open lines have at
-- the bottom of their gaps, the least of the ceiling and the tops, the least of the dropoff and the lower floors; and
-- the listed lines. A ninth listed line halts.
abbrev pub found_from : Tests → Checked → List ℕ → Outcome Checked
found_from tests from near =
    if nat_lt 8 (length (listed_after tests from.listed near)) then halts Listed
    else goes (record {
      clear = not (list_any tests.blocks (filter tests.met near));
      floor = fold (λ greatest i. int_max greatest (tests.gap i).bottom) from.floor (open_lines tests near);
      ceiling = fold (λ least i. int_min least (tests.gap i).top) from.ceiling (open_lines tests near);
      dropoff = fold (λ least i. int_min least (tests.gap i).low) from.dropoff (open_lines tests near);
      listed = listed_after tests from.listed near;
    })

-- the lines of a world, for a box that is the player's or another thing's
abbrev pub line_tests : Lists → Gridded → Bool → Area → Tests
line_tests level world player box = record {
  met = λ i. lies_on box (nth_line level i);
  blocks = λ i. stops player (nth_line level i);
  special = λ i. not (line_special_at world i == 0);
  gap = λ i. gap_of level world i;
}

-- ---- line by line, where a line may come again

abbrev pub narrowed : Checked → Gap → Checked
narrowed found gap = record found { floor = int_max found.floor gap.bottom; ceiling = int_min found.ceiling gap.top; dropoff = int_min found.dropoff gap.low }

abbrev pub has_line : List ℕ → ℕ → Bool
has_line listed line = list_any (λ other. other == line) listed

-- a special line is listed once
abbrev pub listed_one : Bool → Checked → ℕ → Outcome Checked
listed_one false found line = goes found
listed_one true found line =
    if has_line found.listed line then goes found
    else if nat_lt (length found.listed) 8 then goes (record found { listed = found.listed ++ line ∷ [] })
    else halts Listed

abbrev pub found_one : Tests → Checked → ℕ → Outcome Checked
found_one tests found line =
    if tests.met line then (if tests.blocks line then goes (record found { clear = false }) else listed_one (tests.special line) (narrowed found (tests.gap line)) line)
    else goes found

-- nothing comes behind a line that blocks
abbrev pub found_more : Tests → Outcome Checked → ℕ → Outcome Checked
found_more tests (goes found) line = if found.clear then found_one tests found line else goes found
found_more tests (halts reason) line = halts reason
