-- The WAD of each gallery passes the test: there are five numbers of rooms, and what is drawn for a room makes no
-- difference.
use Rattle.std.proofs.Common.{◌≡◌, ℕ, zero, suc, ◌+◌, ◌%◌, ◌<◌, true, false, List, [], ◌∷◌, map, refl, ap, ◌∙◌, arith}
use Rattle.std.specs.Prelude.{None}
use Rattle.std.specs.Int.{int_wrap}
use Rattle.fixed_angle.specs.Tables.{Tables}
use Rattle.fixed_angle.specs.TableFile.{tables_of}
use Rattle.gallery_gen.specs.Tables.{tables_bytes}
use Rattle.wad_lumps.specs.Spelled.{long_at, word_at}
use Rattle.wad_lumps.specs.Map.{lump_spans, IsMap}
use Rattle.wad_lumps.specs.declared.map.MapSpans.{MapSpans}
use Rattle.map_geometry.specs.Lists.{Lists}
use Rattle.map_load.specs.Load.{bytes_of}
use Rattle.map_load.specs.Spelled.{spelled, records, thing_at, side_at, vertex_at, seg_at, node_at, ground_at, line_words_at, between, facing, line_at, subsector_at, sides_of, vertices_of, segs_of, lines_of, subsectors_of, words_of}
use Rattle.level_start.specs.Start.{first_fault, start_fault}
use Rattle.gallery_gen.specs.Draws.{draws}
use Rattle.gallery_gen.specs.Wad.{wad_with}
use Rattle.gallery_gen.specs.Gallery.{lumps_of, wad_bytes, demo_head}
use Rattle.gallery_laws.proofs.Tests.{wad_test}
use Rattle.gallery_laws.proofs.Read.{Reads, reads, found_so}
use Rattle.gallery_laws.specs.Lumps.{lumps_in, lumps_of_gallery}
use Rattle.gallery_laws.proofs.Filed.{blue_key, kinds_read}

-- tables that have the blue key alone
abbrev with_key : Tables
with_key = record { sines = []; arcs = []; draws = []; kinds = blue_key ∷ [] }

abbrev level_of : List ℕ → Lists
level_of w = spelled w (lump_spans w 0) false

-- the WAD of so many rooms
abbrev wad_of : ℕ → ℕ → List ℕ
wad_of number rooms = wad_with (lumps_of rooms (draws rooms number))

-- it passes the test, its level starts, and the lumps are found in it
record Passes (w : List ℕ) (lumps : List (List ℕ)) : Type 0 where
  test : wad_test w ≡ true
  start : first_fault (level_of w) with_key 2 ≡ None
  found : map (bytes_of w) (lump_spans w 0) ≡ lumps

abbrev Rooms : ℕ → ℕ → Type 0
Rooms number rooms = Passes (wad_of number rooms) (lumps_in (lumps_of rooms (draws rooms number)))

-- ---- five numbers of rooms

four_rooms : (number : ℕ) → Rooms number 4
unfolding long_at word_at spelled records thing_at side_at vertex_at seg_at node_at ground_at line_words_at between facing line_at subsector_at sides_of vertices_of segs_of lines_of subsectors_of words_of int_wrap
four_rooms number = record { test = refl; start = refl; found = refl }

five_rooms : (number : ℕ) → Rooms number 5
unfolding long_at word_at spelled records thing_at side_at vertex_at seg_at node_at ground_at line_words_at between facing line_at subsector_at sides_of vertices_of segs_of lines_of subsectors_of words_of int_wrap
five_rooms number = record { test = refl; start = refl; found = refl }

six_rooms : (number : ℕ) → Rooms number 6
unfolding long_at word_at spelled records thing_at side_at vertex_at seg_at node_at ground_at line_words_at between facing line_at subsector_at sides_of vertices_of segs_of lines_of subsectors_of words_of int_wrap
six_rooms number = record { test = refl; start = refl; found = refl }

seven_rooms : (number : ℕ) → Rooms number 7
unfolding long_at word_at spelled records thing_at side_at vertex_at seg_at node_at ground_at line_words_at between facing line_at subsector_at sides_of vertices_of segs_of lines_of subsectors_of words_of int_wrap
seven_rooms number = record { test = refl; start = refl; found = refl }

eight_rooms : (number : ℕ) → Rooms number 8
unfolding long_at word_at spelled records thing_at side_at vertex_at seg_at node_at ground_at line_words_at between facing line_at subsector_at sides_of vertices_of segs_of lines_of subsectors_of words_of int_wrap
eight_rooms number = record { test = refl; start = refl; found = refl }

-- what holds of each of the first five numbers
five : (P : ℕ → Type 0) → P 0 → P 1 → P 2 → P 3 → P 4 → (k : ℕ) → k < 5 → P k
five P a b c d e zero below = a
five P a b c d e (suc zero) below = b
five P a b c d e (suc (suc zero)) below = c
five P a b c d e (suc (suc (suc zero))) below = d
five P a b c d e (suc (suc (suc (suc zero)))) below = e
five P a b c d e (suc (suc (suc (suc (suc k))))) below = absurd (omega (arith, below))

-- ---- every gallery

gallery_passes : (number : ℕ) → Passes (wad_bytes number) (lumps_of_gallery number)
unfolding wad_bytes lumps_of_gallery
gallery_passes number =
    five (λ k. Rooms number (4 + k)) (four_rooms number) (five_rooms number) (six_rooms number) (seven_rooms number) (eight_rooms number) (number % 5) (omega arith)

pub gallery_reads : (number : ℕ) → Reads (wad_bytes number)
gallery_reads number = reads (wad_bytes number) (gallery_passes number).test

-- a start asks nothing of the tables but their kinds
by_kinds : (l : Lists) (tables : Tables) → tables.kinds ≡ blue_key ∷ [] → first_fault l tables 2 ≡ first_fault l with_key 2
by_kinds l tables same = ap (λ kinds. first_fault l (record { sines = []; arcs = []; draws = []; kinds = kinds }) 2) same

pub level_starts : (number : ℕ) (found : MapSpans) → IsMap (wad_bytes number) 1 1 found
    → start_fault (spelled (wad_bytes number) found.spans.items found.episode_form) (tables_of tables_bytes) demo_head ≡ None
unfolding start_fault
level_starts number found is =
    let so = found_so (wad_bytes number) found (gallery_reads number) is in
    rw (so.spans, so.episode_form) (by_kinds (level_of (wad_bytes number)) (tables_of tables_bytes) kinds_read ∙ (gallery_passes number).start)

pub spans_hold : (number : ℕ) (found : MapSpans) → IsMap (wad_bytes number) 1 1 found → map (bytes_of (wad_bytes number)) found.spans.items ≡ lumps_of_gallery number
spans_hold number found is = let so = found_so (wad_bytes number) found (gallery_reads number) is in rw so.spans (gallery_passes number).found
