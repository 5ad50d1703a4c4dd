-- The tics of a gallery's demo.
use Rattle.std.specs.Prelude.{ℕ, ◌*◌, ◌/◌, ◌%◌, pos, negsuc, List, [], ◌∷◌, map, slice_index, slice_index_or}
use Rattle.lmp_codec.specs.Tics.{tic_of}
use Rattle.lmp_codec.specs.declared.input.Tic.{Tic}
use Rattle.gallery_gen.specs.Draws.{draws, state_after}
use Rattle.gallery_gen.specs.Plan.{room_count}
use Rattle.gallery_gen.specs.Gallery.{tic_count}

-- a tic by the number that was drawn for it: ahead, aside, turn, and use
abbrev pub tic_by : ℕ → Tic
tic_by drawn =
    tic_of (slice_index_or (pos 50 ∷ pos 25 ∷ pos 0 ∷ pos 50 ∷ []) (drawn % 4) (pos 0))
    (slice_index_or (pos 0 ∷ pos 24 ∷ negsuc 23 ∷ pos 0 ∷ []) (drawn / 4 % 4) (pos 0))
    (256 * slice_index (0 ∷ 0 ∷ 2 ∷ 254 ∷ []) (drawn / 16 % 4))
    (drawn / 64 % 2 * 2)

-- those of a gallery's demo, whose numbers are drawn after those of the rooms
unfoldable pub tics_of : ℕ → List Tic
tics_of number = map tic_by (draws (tic_count number) (state_after (room_count number) number))
