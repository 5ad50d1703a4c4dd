-- How the tics of a tape are kept: a front in one piece, and blocks of tics behind it.
use Rattle.std.specs.Prelude.{ℕ, ◌+◌, ◌*◌, ◌<◌, ◌≤◌, ◌≡◌, List, length, take, flat_map, slice_index_or, Vec, vec_items}
use Rattle.lmp_codec.specs.Demo.{most_tics}
use Rattle.lmp_codec.specs.declared.input.Tic.{Tic}

-- Tics, and how many of them stand in one piece at the front.
pub record Kept : Type 0 where
  pub tics : List Tic
  pub front : ℕ

-- the tics of blocks, in order
abbrev pub joined : {Z : Type 0} → List (Vec Tic Z) → List Tic
joined blocks = flat_map vec_items blocks

-- what an edit may keep on its way: as many tics as a demo may have, and as many that come in their place
abbrev pub most_kept : ℕ
most_kept = 2 * most_tics

-- The tic at a place of the joined blocks stands in this block, at this place of it.
pub record IsSpot {Z : Type 0} (blocks : List (Vec Tic Z)) (place block inside : ℕ) : Type 0 where
  pub there : block < length blocks
  pub sum : place ≡ length (joined (take block blocks)) + inside
  pub within : (none : Vec Tic Z) → inside < length (vec_items (slice_index_or blocks block none))

-- a tape has no more tics than a demo may have, and its cursor stands among them
pub record IsTape (kept : Kept) (cursor : ℕ) : Type 0 where
  pub inside : cursor ≤ length kept.tics
  pub few : length kept.tics ≤ most_tics
