-- The derived fields of what a map's lumps spell are what follows.
use Rattle.std.proofs.Common.{◌≡◌, ℕ, ◌*◌, ◌+◌, ◌/◌, Bool, List, length, map, All, refl}
use Rattle.std.specs.List.{range_with_len}
use Rattle.std.proofs.lemmas.List.Elements.{All-map}
use Rattle.map_geometry.specs.declared.records.Line.{Line}
use Rattle.map_geometry.specs.declared.records.Side.{Side}
use Rattle.map_geometry.specs.declared.records.Vertex.{Vertex}
use Rattle.map_geometry.specs.declared.records.Seg.{Seg}
use Rattle.map_geometry.specs.Derived.{IsLineOf, IsSubsectorOf, IsGridOf}
use Rattle.map_load.specs.Spelled.{records, line_words_at, between, facing, line_at, subsector_at, lump, lines_of, sides_of, vertices_of, segs_of, subsectors_of, spelled}
use Rattle.map_load.specs.Steps.{IsDerived}

line_derived : (w : List ℕ) (vertices : List Vertex) (sides : List Side) (at : ℕ) → IsLineOf vertices sides (line_at w vertices sides at)
unfolding line_at facing between line_words_at
line_derived w vertices sides at = record { x = refl; y = refl; dx = refl; dy = refl; area = refl; slope = refl; front = refl; back = refl }

subsector_derived : (w : List ℕ) (lines : List Line) (sides : List Side) (segs : List Seg) (at : ℕ) → IsSubsectorOf lines sides segs (subsector_at w lines sides segs at)
unfolding subsector_at
subsector_derived w lines sides segs at = record { sector = refl }

all_records : {X : Type 0} (P : X → Type 0) (record_at : ℕ → X) → ((at : ℕ) → P (record_at at)) → (size : ℕ) (span : ℕ × ℕ) → All P (records record_at size span)
unfolding records
all_records P record_at each size span = All-map P (λ i. record_at (span.0 + i * size)) (range_with_len 0 (span.1 / size)) (λ k d below. each _)

pub derived : (w : List ℕ) (spans : List (ℕ × ℕ)) (episode_form : Bool) → IsDerived (spelled w spans episode_form)
unfolding spelled lines_of subsectors_of
derived w spans episode_form = record {
  lines = all_records (IsLineOf (vertices_of w spans) (sides_of w spans)) (line_at w (vertices_of w spans) (sides_of w spans)) (line_derived w (vertices_of w spans) (sides_of w spans)) 14 (lump spans 2);
  subsectors = all_records (IsSubsectorOf (lines_of w spans) (sides_of w spans) (segs_of w spans)) (subsector_at w (lines_of w spans) (sides_of w spans) (segs_of w spans)) (subsector_derived w (lines_of w spans) (sides_of w spans) (segs_of w spans)) 4 (lump spans 6);
  grid = record { origin_x = refl; origin_y = refl; width = refl; height = refl; cells = refl };
}
