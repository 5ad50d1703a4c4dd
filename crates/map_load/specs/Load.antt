-- What has to hold of a map's lumps, in the order in which it is judged.
use Rattle.std.specs.Prelude.{◌≡◌, ℕ, Bool, false, ◌||◌, IsTrue, List, ◌∷◌, take, drop, codes, nat_eq}
use Rattle.std.specs.List.{starts_with}
use Rattle.fixed_angle.specs.FirstFault.{Condition}
use Rattle.map_geometry.specs.declared.fault.LevelFault.{LevelFault}
use Rattle.map_geometry.specs.declared.fault.LevelFault.TheVariants.{MapForm, NodesKind}
use Rattle.map_geometry.specs.Conditions.{conditions}
use Rattle.map_load.specs.Spelled.{lump, spelled}

-- the bytes of a span
abbrev pub bytes_of : List ℕ → ℕ × ℕ → List ℕ
bytes_of w span = take span.1 (drop span.0 w)

-- a lump of nodes of an extended kind begins with its letters
abbrev pub IsExtended : List ℕ → Type 0
IsExtended nodes = IsTrue (starts_with nat_eq nodes (codes "xNd4") || starts_with nat_eq nodes (codes "XNOD") || starts_with nat_eq nodes (codes "ZNOD"))

-- The map is of the original game's form, and so are its nodes; then what its lumps spell is judged as a level.
unfoldable pub level_conditions : List ℕ → List (ℕ × ℕ) → (other_form episode_form : Bool) → List (Condition LevelFault)
level_conditions w spans other_form episode_form =
    record { holds = other_form ≡ false; fault = MapForm }
    ∷ (record { holds = IsExtended (bytes_of w (lump spans 7)) → ⊥; fault = NodesKind }
    ∷ conditions (spelled w spans episode_form))
