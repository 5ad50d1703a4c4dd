-- A gallery, made out of one number.
use Rattle.std.specs.Prelude.{ℕ, ◌+◌, ◌-◌, ◌*◌, ◌/◌, ◌%◌, List, [], ◌∷◌, ◌++◌, map, slice_index}
use Rattle.std.specs.List.{flat_map, range_with_len}
use Rattle.gallery_gen.specs.Draws.{draws, state_after}
use Rattle.gallery_gen.specs.Plan.{room_count, room_of, lines_of}
use Rattle.gallery_gen.specs.Lumps.{things, linedef, sidedefs, vertices, seg, subsector, node_of, sectors_from, blockmap}
use Rattle.gallery_gen.specs.Wad.{Lump, wad_with}

-- ---- names of eight bytes

abbrev pub map01_name : List ℕ
map01_name = 77 ∷ 65 ∷ 80 ∷ 48 ∷ 49 ∷ 0 ∷ 0 ∷ 0 ∷ []

abbrev pub things_name : List ℕ
things_name = 84 ∷ 72 ∷ 73 ∷ 78 ∷ 71 ∷ 83 ∷ 0 ∷ 0 ∷ []

abbrev pub linedefs_name : List ℕ
linedefs_name = 76 ∷ 73 ∷ 78 ∷ 69 ∷ 68 ∷ 69 ∷ 70 ∷ 83 ∷ []

abbrev pub sidedefs_name : List ℕ
sidedefs_name = 83 ∷ 73 ∷ 68 ∷ 69 ∷ 68 ∷ 69 ∷ 70 ∷ 83 ∷ []

abbrev pub vertexes_name : List ℕ
vertexes_name = 86 ∷ 69 ∷ 82 ∷ 84 ∷ 69 ∷ 88 ∷ 69 ∷ 83 ∷ []

abbrev pub segs_name : List ℕ
segs_name = 83 ∷ 69 ∷ 71 ∷ 83 ∷ 0 ∷ 0 ∷ 0 ∷ 0 ∷ []

abbrev pub ssectors_name : List ℕ
ssectors_name = 83 ∷ 83 ∷ 69 ∷ 67 ∷ 84 ∷ 79 ∷ 82 ∷ 83 ∷ []

abbrev pub nodes_name : List ℕ
nodes_name = 78 ∷ 79 ∷ 68 ∷ 69 ∷ 83 ∷ 0 ∷ 0 ∷ 0 ∷ []

abbrev pub sectors_name : List ℕ
sectors_name = 83 ∷ 69 ∷ 67 ∷ 84 ∷ 79 ∷ 82 ∷ 83 ∷ 0 ∷ []

abbrev pub reject_name : List ℕ
reject_name = 82 ∷ 69 ∷ 74 ∷ 69 ∷ 67 ∷ 84 ∷ 0 ∷ 0 ∷ []

abbrev pub blockmap_name : List ℕ
blockmap_name = 66 ∷ 76 ∷ 79 ∷ 67 ∷ 75 ∷ 77 ∷ 65 ∷ 80 ∷ []

-- ---- the map

-- the label, the things, and all about lines
abbrev pub line_lumps : ℕ → List Lump
line_lumps rooms =
    (map01_name, [])
    ∷ (things_name, things)
    ∷ (linedefs_name, flat_map linedef (lines_of rooms))
    ∷ (sidedefs_name, flat_map sidedefs (lines_of rooms))
    ∷ (vertexes_name, flat_map vertices (lines_of rooms))
    ∷ []

-- the tree
abbrev pub tree_lumps : ℕ → List Lump
tree_lumps rooms =
    (segs_name, flat_map seg (range_with_len 0 rooms))
    ∷ (ssectors_name, flat_map subsector (range_with_len 0 rooms))
    ∷ (nodes_name, flat_map node_of (range_with_len 0 (rooms - 1)))
    ∷ []

-- the sectors, and the blockmap
abbrev pub sector_lumps : ℕ → List ℕ → List Lump
sector_lumps rooms drawn = (sectors_name, sectors_from 0 (map room_of drawn)) ∷ (reject_name, []) ∷ (blockmap_name, blockmap rooms) ∷ []

-- the lumps of a map of rooms, for which these numbers were drawn, in their order
abbrev pub lumps_of : ℕ → List ℕ → List Lump
lumps_of rooms drawn = line_lumps rooms ++ tree_lumps rooms ++ sector_lumps rooms drawn

-- one number is drawn for each room
unfoldable pub wad_bytes : ℕ → List ℕ
wad_bytes number = wad_with (lumps_of (room_count number) (draws (room_count number) number))

-- ---- the demo

-- 600 to 1,000 tics
abbrev pub tic_count : ℕ → ℕ
tic_count number = 600 + number % 5 * 100

-- a tic by the number that was drawn for it: ahead, aside, turn, and use
abbrev pub tic_of : ℕ → List ℕ
tic_of drawn =
    slice_index (50 ∷ 25 ∷ 0 ∷ 50 ∷ []) (drawn % 4)
    ∷ slice_index (0 ∷ 24 ∷ 232 ∷ 0 ∷ []) (drawn / 4 % 4)
    ∷ slice_index (0 ∷ 0 ∷ 2 ∷ 254 ∷ []) (drawn / 16 % 4)
    ∷ drawn / 64 % 2 * 2
    ∷ []

-- version 109, at the third skill on the first map, alone and without monsters
abbrev pub demo_head : List ℕ
demo_head = 109 ∷ 2 ∷ 1 ∷ 1 ∷ 0 ∷ 0 ∷ 0 ∷ 1 ∷ 0 ∷ 1 ∷ 0 ∷ 0 ∷ 0 ∷ []

-- the head, the tics, and the end byte; the numbers are drawn after those of the rooms
unfoldable pub demo_bytes : ℕ → List ℕ
demo_bytes number = demo_head ++ flat_map tic_of (draws (tic_count number) (state_after (room_count number) number)) ++ 128 ∷ []
