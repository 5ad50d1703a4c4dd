-- Tests that can be computed, of the bytes of a file and of a level's lists, and of a whole WAD.
use Rattle.std.proofs.Common.{ℕ, zero, suc, ◌+◌, ◌-◌, ◌*◌, ◌^◌, pos, Bool, true, false, not, ◌&&◌, ◌||◌, eqb, ltb, leb, List, length}
use Rattle.std.specs.Prelude.{Option, Some, None, is_some, int_lt, slice_index, codes, nat_eq}
use Rattle.std.specs.List.{list_all, starts_with}
use Rattle.std.specs.Cmp.Lexicographic.{pointwise}
use Rattle.map_geometry.specs.declared.records.Line.{Line}
use Rattle.map_geometry.specs.declared.records.Node.{Node}
use Rattle.map_geometry.specs.declared.records.Subsector.{Subsector}
use Rattle.map_geometry.specs.Lists.{Lists, nth_line, nth_seg, nth_subsector, nth_node, nth_cell}
use Rattle.map_geometry.specs.Derived.{sector_of_side, side_of, signed_word}
use Rattle.map_geometry.specs.Blocks.{block_list, end_mark}
use Rattle.map_load.specs.Load.{bytes_of}
use Rattle.map_load.specs.Spelled.{lump, spelled}
use Rattle.wad_lumps.specs.Directory.{entry_count, directory_start, span_of, name_of}
use Rattle.wad_lumps.specs.Map.{two_digit_label, lump_spans}

-- each of the first so many numbers passes
abbrev pub passes : ℕ → (ℕ → Bool) → Bool
passes zero test = true
passes (suc n) test = passes n test && test n

-- ---- a file and its directory

abbrev pub file_test : List ℕ → Bool
file_test w =
    leb 12 (length w)
    && ((starts_with nat_eq w (codes "IWAD") || starts_with nat_eq w (codes "PWAD"))
    && (ltb (entry_count w) (2 ^ 31)
    && (ltb (directory_start w) (2 ^ 31)
    && leb (directory_start w + 16 * entry_count w) (length w))))

-- no name but the first begins with an M
abbrev pub label_test : List ℕ → Bool
label_test w =
    ltb 0 (entry_count w)
    && (pointwise eqb (name_of w 0) (two_digit_label 1)
    && passes (entry_count w - 1) (λ k. not (eqb (slice_index (name_of w (suc k)) 0) 77)))

abbrev pub lump_test : List ℕ → ℕ → Bool
lump_test w i =
    ltb i (entry_count w)
    && (ltb (span_of w i).0 (2 ^ 31)
    && (ltb (span_of w i).1 (2 ^ 31)
    && leb ((span_of w i).0 + (span_of w i).1) (length w)))

-- the second letter of the first lump's name is no E, and there are eleven entries
abbrev pub form_test : List ℕ → Bool
form_test w = not (eqb (slice_index (name_of w 1) 1) 69) && leb (entry_count w) 11

-- ---- a level

abbrev pub back_test : Lists → Option ℕ → Bool
back_test l None = true
back_test l (Some side) = ltb side (length l.sides) && ltb (sector_of_side l.sides side) (length l.sectors)

abbrev pub line_test : Lists → Line → Bool
line_test l line =
    ltb line.v1 (length l.vertices)
    && (ltb line.v2 (length l.vertices)
    && (ltb line.front_side (length l.sides)
    && (ltb (sector_of_side l.sides line.front_side) (length l.sectors)
    && back_test l line.back_side)))

abbrev pub subsector_test : Lists → Subsector → Bool
subsector_test l s =
    ltb 0 s.count
    && (ltb s.first (length l.segs)
    && (ltb (nth_seg l s.first).line (length l.lines)
    && is_some (side_of (nth_line l (nth_seg l s.first).line) (nth_seg l s.first).side)))

-- a child of node i is a node before it, or a subsector that is there
abbrev pub child_test : Lists → ℕ → ℕ → Bool
child_test l i child = (leb 32768 child || ltb child i) && (ltb child 32768 || ltb (child - 32768) (length l.subsectors))

abbrev pub node_test : Lists → ℕ → Node → Bool
node_test l i node = child_test l i node.child_0 && child_test l i node.child_1

-- each list ends before the last word, which is an end mark
abbrev pub shape_test : Lists → Bool
shape_test l =
    leb 4 (length l.words)
    && (int_lt (pos 0) (signed_word (slice_index l.words 2))
    && (int_lt (pos 0) (signed_word (slice_index l.words 3))
    && (leb (4 + slice_index l.words 2 * slice_index l.words 3) (length l.words)
    && (eqb (slice_index l.words (length l.words - 1)) end_mark
    && list_all (λ offset. leb offset (length l.words - 1)) l.cells))))

abbrev pub cell_test : Lists → ℕ → Bool
cell_test l i = list_all (λ entry. ltb entry (length l.lines)) (block_list l.words (nth_cell l i))

abbrev pub level_test : Lists → Bool
level_test l =
    passes (length l.lines) (λ i. line_test l (nth_line l i))
    && (ltb 0 (length l.subsectors)
    && (passes (length l.subsectors) (λ i. subsector_test l (nth_subsector l i))
    && (passes (length l.nodes) (λ i. node_test l i (nth_node l i))
    && (shape_test l
    && passes (length l.cells) (cell_test l)))))

abbrev pub plain_nodes : List ℕ → Bool
plain_nodes nodes = not (starts_with nat_eq nodes (codes "xNd4") || starts_with nat_eq nodes (codes "XNOD") || starts_with nat_eq nodes (codes "ZNOD"))

-- ---- all of it, where the first entry is the map's label

abbrev pub wad_test : List ℕ → Bool
wad_test w =
    file_test w
    && (label_test w
    && (passes 10 (λ k. lump_test w (0 + (k + 1)))
    && (form_test w
    && (plain_nodes (bytes_of w (lump (lump_spans w 0) 7)) && level_test (spelled w (lump_spans w 0) false)))))
