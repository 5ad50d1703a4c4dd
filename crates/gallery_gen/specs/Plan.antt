-- The plan of a gallery: its rooms in a row from west to east, and the lines around and between them. Coordinates and heights
-- are in map units.
use Rattle.std.specs.Prelude.{ℕ, ◌+◌, ◌-◌, ◌*◌, ◌/◌, ◌%◌, ℤ, pos, negsuc, ◌-ℤ◌, List, [], ◌∷◌, ◌++◌, map, slice_index, Option, Some, None}
use Rattle.std.specs.List.{flat_map, range_with_len}
use Rattle.gallery_gen.specs.declared.plan.Room.{Room}
use Rattle.gallery_gen.specs.declared.plan.PlanLine.{PlanLine}

-- 4 to 8 rooms
abbrev pub room_count : ℕ → ℕ
room_count number = 4 + number % 5

-- the sector specials that rooms have
abbrev pub room_specials : List ℕ
room_specials = 0 ∷ 1 ∷ 2 ∷ 3 ∷ 8 ∷ 12 ∷ 13 ∷ 17 ∷ []

-- a room by the number that was drawn for it
abbrev pub room_of : ℕ → Room
room_of drawn = record {
  floor = drawn % 4 * 8;
  light = 96 + drawn / 4 % 8 * 16;
  special = slice_index room_specials (drawn / 32 % 8);
}

-- the border west of a room; each room is 256 units wide
abbrev pub border : ℕ → ℤ
border room = pos (256 * room) -ℤ pos 128

abbrev pub north : ℤ
north = pos 128

abbrev pub south : ℤ
south = negsuc 127

-- Line `number` from one place to another, with one side, whose number is the line's. Line n has the vertices 2n and 2n + 1.
abbrev pub wall : ℕ → (x1 y1 x2 y2 : ℤ) → ℕ → PlanLine
wall number x1 y1 x2 y2 room = record {
  v1 = 2 * number;
  v2 = 2 * number + 1;
  x1 = x1;
  y1 = y1;
  x2 = x2;
  y2 = y2;
  flags = 1;
  special = 0;
  tag = 0;
  side = number;
  back_side = 65535;
  front = room;
  back = None;
}

-- a room's walls in the north, from west to east, and in the south, from east to west
abbrev pub walls : ℕ → List PlanLine
walls room =
    wall (2 * room) (border room) north (border (room + 1)) north room
    ∷ wall (2 * room + 1) (border (room + 1)) south (border room) south room
    ∷ []

-- the ends of the row, in the west and in the east
abbrev pub ends : ℕ → List PlanLine
ends rooms =
    wall (2 * rooms) (border 0) south (border 0) north 0
    ∷ wall (2 * rooms + 1) (border rooms) north (border rooms) south (rooms - 1)
    ∷ []

-- the line specials that joins have
abbrev pub join_specials : List ℕ
join_specials = 0 ∷ 88 ∷ 79 ∷ 17 ∷ 87 ∷ 82 ∷ []

-- Line `number`, which joins a room and the next and has two sides, of which this is the first.
abbrev pub joining : ℕ → ℕ → ℕ → PlanLine
joining number side room = record {
  v1 = 2 * number;
  v2 = 2 * number + 1;
  x1 = border (room + 1);
  y1 = north;
  x2 = border (room + 1);
  y2 = south;
  flags = 4;
  special = slice_index join_specials (room % 6);
  tag = room;
  side = side;
  back_side = side + 1;
  front = room;
  back = Some (room + 1);
}

-- the lines and sides of the joins come after those of the walls
abbrev pub join : ℕ → ℕ → PlanLine
join rooms room = joining (2 * rooms + 2 + room) (2 * rooms + 2 + 2 * room) room

-- all lines, in the order of their numbers
abbrev pub lines_of : ℕ → List PlanLine
lines_of rooms = flat_map walls (range_with_len 0 rooms) ++ ends rooms ++ map (join rooms) (range_with_len 0 (rooms - 1))
