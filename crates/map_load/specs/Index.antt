-- How the lines of each sector are gathered and joined. No public contract cites these.
use Rattle.std.specs.Prelude.{◌≡◌, ℕ, ◌<◌, ◌==◌, List, [], ◌∷◌, ◌++◌, length, filter, slice_index_or, if◌then◌else◌}
use Rattle.std.specs.List.{range_with_len}
use Rattle.map_geometry.specs.declared.records.Line.{Line}
use Rattle.map_geometry.specs.declared.sectors.Outline.{Outline}
use Rattle.map_geometry.specs.Lists.{Lists, nth_line}
use Rattle.map_geometry.specs.Sectors.{is_beside, IsOutline, no_outline}
use Rattle.map_load.specs.declared.index.SectorLines.{SectorLines}

-- no sector has a line
pub record AreEmpty (count : ℕ) (sectors : List SectorLines) : Type 0 where
  pub len : length sectors ≡ count
  pub each : (k : ℕ) (d : SectorLines) → k < length sectors → (slice_index_or sectors k d).lines.items ≡ []

-- one sector gains a line, if it is there, and the others keep theirs
pub record Gains (old new : List SectorLines) (sector line : ℕ) : Type 0 where
  pub len : length new ≡ length old
  pub each : (k : ℕ) (d : SectorLines) → k < length old
      → (slice_index_or new k d).lines.items
      ≡ (if sector == k then (slice_index_or old k d).lines.items ++ line ∷ [] else (slice_index_or old k d).lines.items)

-- the sectors in front of a line and behind it gain it, once where they are the same
pub record GainsLine (old new : List SectorLines) (line : Line) (number : ℕ) : Type 0 where
  pub len : length new ≡ length old
  pub each : (k : ℕ) (d : SectorLines) → k < length old
      → (slice_index_or new k d).lines.items
      ≡ (if is_beside k line then (slice_index_or old k d).lines.items ++ number ∷ [] else (slice_index_or old k d).lines.items)

-- of the first so many lines those beside a sector
unfoldable pub first_lines : Lists → ℕ → ℕ → List ℕ
first_lines l count sector = filter (λ i. is_beside sector (nth_line l i)) (range_with_len 0 count)

-- each sector has those of the first so many lines that are beside it
pub record HaveLines (l : Lists) (count : ℕ) (sectors : List SectorLines) : Type 0 where
  pub len : length sectors ≡ length l.sectors
  pub each : (k : ℕ) (d : SectorLines) → k < length l.sectors → (slice_index_or sectors k d).lines.items ≡ first_lines l count k

-- the first so many sectors have their outlines
pub record AreOutlines (l : Lists) (joined : List ℕ) (outlines : List Outline) (count : ℕ) : Type 0 where
  pub len : length outlines ≡ count
  pub each : (sector : ℕ) → sector < count → IsOutline l joined sector (slice_index_or outlines sector no_outline)
