-- The map that a gallery's demo names, and its lumps as a reader is to find them.
use Rattle.std.specs.Prelude.{ℕ, List, drop, map, slice_index}
use Rattle.gallery_gen.specs.Draws.{draws}
use Rattle.gallery_gen.specs.Plan.{room_count}
use Rattle.gallery_gen.specs.Wad.{Lump}
use Rattle.gallery_gen.specs.Gallery.{lumps_of, demo_head}

-- the episode and the map in the demo's header
abbrev pub episode : ℕ
episode = slice_index demo_head 2

abbrev pub map_number : ℕ
map_number = slice_index demo_head 3

-- the bytes of the lumps behind the label
abbrev pub lumps_in : List Lump → List (List ℕ)
lumps_in lumps = map (λ lump. lump.1) (drop 1 lumps)

-- those of a gallery
unfoldable pub lumps_of_gallery : ℕ → List (List ℕ)
lumps_of_gallery number = lumps_in (lumps_of (room_count number) (draws (room_count number) number))
