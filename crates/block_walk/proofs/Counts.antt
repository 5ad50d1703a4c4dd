-- How many blocks a box has.
use Rattle.std.proofs.Common.{◌≡◌, ℕ, ◌+◌, ◌-◌, ◌*◌, ℤ, pos, negsuc, FitsSigned, w32, ◌+ℤ◌, ◌-ℤ◌, ◌≤ℤ◌, true, false, cond, List, [], ◌∷◌, length, refl, ◌∙◌, length-append, arith}
use Rattle.std.specs.Prelude.{int_le, int_lt, unsigned_abs}
use Rattle.std.proofs.lemmas.Bool.{false≢true}
use Rattle.std.specs.List.{flat_map}
use Rattle.std.proofs.lemmas.Int.{ints}
use Rattle.std.proofs.lemmas.List.{length-map}
use Rattle.std.proofs.lemmas.List.FromFn.{length-map-range_with_len}
use Rattle.map_geometry.specs.declared.blocks.Block.{Block}
use Rattle.map_geometry.specs.declared.blocks.BlockBox.{BlockBox}
use Rattle.map_geometry.specs.Blocks.{span, column_of, blocks_in, cut_to_grid}

span_length : (low high : ℤ) → length (span low high) ≡ cond (int_le low high) (unsigned_abs (high -ℤ low) + 1) 0
unfolding span
span_length low high = length-map-range_with_len (λ i. low +ℤ pos i) 0 (cond (int_le low high) (unsigned_abs (high -ℤ low) + 1) 0)

pub le_from : (low high : ℤ) → int_lt high low ≡ false → int_le low high ≡ true
le_from low high other = grind (arith, ints, other)

pub le_not : (low high : ℤ) → int_lt high low ≡ true → int_le low high ≡ false
le_not low high less' = grind (arith, ints, less')

pub difference_fits : (low high : ℤ) → pos 0 ≤ℤ low → int_le low high ≡ true → FitsSigned w32 high → FitsSigned w32 (high -ℤ low)
difference_fits (pos a) (pos b) from within fits =
    let is : pos b -ℤ pos a ≡ pos (b - a) = grind (arith, ints, within) in
    let below = fits.sfits in
    rw is (record { sfits = omega (arith, below) })
difference_fits (pos a) (negsuc b) from within fits = absurd (false≢true within)
difference_fits (negsuc a) high from within fits = absurd (omega (arith, ints, from))

pub span_some : (low high : ℤ) → int_le low high ≡ true → length (span low high) ≡ unsigned_abs (high -ℤ low) + 1
span_some low high within = span_length low high ∙ rw within refl

pub span_empty : (low high : ℤ) → int_le low high ≡ false → length (span low high) ≡ 0
span_empty low high above = span_length low high ∙ rw above refl

column_length : (bottom top column : ℤ) → length (column_of bottom top column) ≡ length (span bottom top)
column_length bottom top column =
    let at : ℤ → Block = λ row. record { column = column; row = row } in
    length-map (span bottom top) at

columns_length : (bottom top : ℤ) (columns : List ℤ) → length (flat_map (column_of bottom top) columns) ≡ length columns * length (span bottom top)
columns_length bottom top [] = omega arith
columns_length bottom top (column ∷ columns) =
    let first = column_length bottom top column in
    let rest = columns_length bottom top columns in
    length-append (column_of bottom top column) (flat_map (column_of bottom top) columns) ∙ rw (first, rest) (omega arith)

pub blocks_length : (box : BlockBox) → length (blocks_in box) ≡ length (span box.left box.right) * length (span box.bottom box.top)
blocks_length box = columns_length box.bottom box.top (span box.left box.right)

pub cut_left : (width height : ℕ) (box : BlockBox) → pos 0 ≤ℤ (cut_to_grid width height box).left
unfolding cut_to_grid
cut_left width height box = grind (arith, ints)

pub cut_bottom : (width height : ℕ) (box : BlockBox) → pos 0 ≤ℤ (cut_to_grid width height box).bottom
unfolding cut_to_grid
cut_bottom width height box = grind (arith, ints)
