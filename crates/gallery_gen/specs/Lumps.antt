-- The lumps of a gallery's map, byte for byte.
use Rattle.std.specs.Prelude.{ℕ, ◌+◌, ◌-◌, ◌*◌, ◌==◌, ℤ, pos, List, [], ◌∷◌, ◌++◌, length, replicate, Option, Some, None, if◌then◌else◌}
use Rattle.std.specs.Int.{w16, cast_unsigned}
use Rattle.std.specs.List.{flat_map, range_with_len}
use Rattle.byteorder.specs.Endian.{little_bytes}
use Rattle.gallery_gen.specs.declared.plan.Room.{Room}
use Rattle.gallery_gen.specs.declared.plan.PlanLine.{PlanLine}
use Rattle.gallery_gen.specs.Plan.{border, south}

-- a number as a word of 16 bits, the low byte first
abbrev pub word : ℕ → List ℕ
word n = little_bytes 2 n

-- a signed number likewise
abbrev pub signed : ℤ → List ℕ
signed z = little_bytes 2 (cast_unsigned w16 z)

abbrev pub zeros : ℕ → List ℕ
zeros count = replicate count 0

-- ---- things: a place, no angle, the kind's number, and there at each skill

abbrev pub thing_at : ℤ → ℕ → List ℕ
thing_at x number = signed x ++ signed (pos 0) ++ word 0 ++ word number ++ word 7

-- the player in the first room, and a blue key in the third
abbrev pub things : List ℕ
things = thing_at (pos 0) 1 ++ thing_at (pos 512) 5

-- ---- lines

-- what a line is: its ends, flags, special and tag
abbrev pub line_head : PlanLine → List ℕ
line_head line = word line.v1 ++ word line.v2 ++ word line.flags ++ word line.special ++ word line.tag

-- and its sides
abbrev pub linedef : PlanLine → List ℕ
linedef line = line_head line ++ word line.side ++ word line.back_side

-- without offsets and textures, of a room
abbrev pub sidedef : ℕ → List ℕ
sidedef room = zeros 28 ++ word room

abbrev pub behind : Option ℕ → List ℕ
behind None = []
behind (Some room) = sidedef room

-- the side in front, and that behind
abbrev pub sidedefs : PlanLine → List ℕ
sidedefs line = sidedef line.front ++ behind line.back

abbrev pub vertices : PlanLine → List ℕ
vertices line = signed line.x1 ++ signed line.y1 ++ signed line.x2 ++ signed line.y2

-- ---- the tree

-- of each room one seg, the front of its wall in the north
abbrev pub seg : ℕ → List ℕ
seg room = zeros 6 ++ word (2 * room) ++ word 0 ++ word 0

-- and the subsector of that seg alone
abbrev pub subsector : ℕ → List ℕ
subsector room = word 1 ++ word room

-- to the west of a border the tree goes on, and the first room lies behind the last node
abbrev pub west_child : ℕ → ℕ
west_child node = if node == 0 then 32768 else node - 1

-- the border between two rooms, from south to north, without boxes; to the east lies a room
abbrev pub node_of : ℕ → List ℕ
node_of node =
    signed (border (node + 1)) ++ signed south ++ word 0 ++ word 256 ++ zeros 16 ++ word (32768 + (node + 1)) ++ word (west_child node)

-- ---- sectors

-- one a room, without textures; its tag is its number
abbrev pub sector : ℕ → Room → List ℕ
sector tag room = word room.floor ++ word 160 ++ zeros 16 ++ word room.light ++ word room.special ++ word tag

-- those of the rooms from a number on
abbrev pub sectors_from : ℕ → List Room → List ℕ
sectors_from tag [] = []
sectors_from tag (room ∷ rooms) = sector tag room ++ sectors_from (tag + 1) rooms

-- ---- the blockmap: three rows of blocks, which all have one list, that of all lines

abbrev pub blocks : ℕ → ℕ
blocks rooms = (2 * rooms + 1) * 3

-- the list begins behind the offsets
abbrev pub offsets : ℕ → List ℕ
offsets rooms = flat_map (λ block. word (4 + blocks rooms)) (range_with_len 0 (blocks rooms))

abbrev pub block_list : ℕ → List ℕ
block_list rooms = word 0 ++ flat_map word (range_with_len 0 (3 * rooms + 1)) ++ word 65535

abbrev pub blockmap : ℕ → List ℕ
blockmap rooms = signed (border 0) ++ signed south ++ word (2 * rooms + 1) ++ word 3 ++ offsets rooms ++ block_list rooms
