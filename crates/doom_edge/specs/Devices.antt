-- What a shelf holds and a sink got, where they tell, and how a call changes it.
use Rattle.std.specs.Prelude.{◌≡◌, ℕ, List, ◌++◌, take, Option, None, Some, option_map}
use Rattle.std.specs.Ordering.{nat_cmp}
use Rattle.std.specs.Cmp.Lexicographic.{slice_cmp}
use Rattle.std.specs.FinMap as map

-- from names to bytes
abbrev pub Files : Type 0
Files = map.FinMap (slice_cmp nat_cmp) (List ℕ)

-- what is held when this name is bound to these bytes
abbrev pub bound : List ℕ → List ℕ → Option Files → Option Files
bound name bytes told = option_map (λ files. map.insert files name bytes) told

-- what is held under all other names
abbrev pub but_for : List ℕ → Option Files → Option Files
but_for name told = option_map (λ files. map.remove files name) told

-- the shelf tells, and doesn't hold this name
abbrev pub IsUnheld : List ℕ → Option Files → Type 0
IsUnheld name None = ⊥
IsUnheld name (Some files) = map.get files name ≡ None

-- what a sink got, and then these bytes
abbrev pub grown : List ℕ → Option (List ℕ) → Option (List ℕ)
grown more told = option_map (λ so_far. so_far ++ more) told

-- a sink got some of the first of these bytes
pub record GrewByPrefix (bytes : List ℕ) (before after : Option (List ℕ)) : Type 0 where
  pub len : ℕ
  pub prefix : after ≡ grown (take len bytes) before
