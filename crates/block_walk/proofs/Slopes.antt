-- The axes of a walk, from what the code has.
use Rattle.std.proofs.Common.{true, false, ◌≡◌, ◌+◌, ◌-◌, ◌%◌, ℤ, pos, negsuc, refl, sym, ap, ◌∙◌, arith, FitsSigned, w32, inl, inr}
use Rattle.std.specs.Int.{cast_signed, cast_unsigned, int_rem_euclid}
use Rattle.std.specs.Ordering.{int_eq}
use Rattle.std.proofs.lemmas.Int.{ints, to_z-of_z}
use Rattle.std.proofs.lemmas.Bool.{cases_Bool}
use Rattle.std.proofs.lemmas.Bool.Decides.{Decides-int_eq}
use Rattle.map_geometry.proofs.Ways.{read_back}
use Rattle.std.specs.Prelude.{int_lt, ◌-ℤ◌}
use Rattle.fixed_angle.specs.Fixed.{units_of}
use Rattle.block_walk.specs.declared.walk.Axis.{Axis}
use Rattle.block_walk.specs.declared.walk.Walk.{Walk}
use Rattle.map_geometry.specs.Sides.{less}
use Rattle.map_geometry.specs.Blocks.{blocks_below}
use Rattle.block_walk.specs.Visits.{in_blocks, part_of_block, slope_between, axis_by, axis_of, column_next, row_next, next_of}

-- ---- numbers of 32 bits, cast and read again

pub same_bits : (a b : ℤ) → FitsSigned w32 a → FitsSigned w32 b → cast_unsigned w32 a ≡ cast_unsigned w32 b → int_eq a b ≡ true
same_bits a b a_fits b_fits same = (Decides-int_eq a b).1 (sym (to_z-of_z w32 a a_fits) ∙ (ap (cast_signed w32) same ∙ to_z-of_z w32 b b_fits))

pub other_bits : (a b : ℤ) → (cast_unsigned w32 a ≡ cast_unsigned w32 b → ⊥) → int_eq a b ≡ false
other_bits a b other = elim (cases_Bool (int_eq a b)) [
  | inl same ↦ absurd (other (ap (cast_unsigned w32) ((Decides-int_eq a b).0 same)))
  | inr apart ↦ apart
]

pub ruleset casts = (read_back, to_z-of_z, same_bits, other_bits)

-- ---- the axis along which blocks rise, and along which they fall

module _ (from to across across_to begin end' part slope : ℤ) (axis : Axis) (begins : begin ≡ blocks_below from) (ends : end' ≡ blocks_below to) (apart : int_eq begin end' ≡ false)
    (parts : part ≡ part_of_block from) (slopes : slope ≡ slope_between (less to from) (less across_to across)) where
  pub axis_up : int_lt begin end' ≡ true → axis ≡ axis_by (pos 1) (pos 65536 -ℤ part) slope across → axis ≡ axis_of from to across across_to
  unfolding axis_of
  axis_up up is = is ∙ rw (parts, slopes, ← begins, ← ends, apart, up) refl

  pub axis_down : int_lt begin end' ≡ false → axis ≡ axis_by (negsuc 0) part slope across → axis ≡ axis_of from to across across_to
  unfolding axis_of
  axis_down down is = is ∙ rw (parts, slopes, ← begins, ← ends, apart, down) refl

-- ---- how far the next border is

away : (z : ℤ) → FitsSigned w32 (pos 65536 -ℤ int_rem_euclid z (pos 65536))
away (pos a) =
    let is : pos 65536 -ℤ pos (a % 65536) ≡ pos (65536 - a % 65536) = omega (arith, ints) in
    rw is (record { sfits = omega arith })
away (negsuc a) =
    let is : pos 65536 -ℤ pos (65536 - 1 - a % 65536) ≡ pos (1 + a % 65536) = omega (arith, ints) in
    rw is (record { sfits = omega arith })

pub away_fits : (place : ℤ) → FitsSigned w32 (pos 65536 -ℤ part_of_block place)
away_fits place = away (in_blocks place)

-- ---- the next walk

pub next_column : (walk : Walk) (x : ℤ) → x ≡ units_of walk.x.crossing → int_eq x walk.block.row ≡ true → column_next walk ≡ next_of walk
unfolding next_of
next_column walk x xs hit = rw (← xs, hit) refl

pub next_row : (walk : Walk) (x y : ℤ) → x ≡ units_of walk.x.crossing → y ≡ units_of walk.y.crossing → int_eq x walk.block.row ≡ false → int_eq y walk.block.column ≡ true → row_next walk ≡ next_of walk
unfolding next_of
next_row walk x y xs ys miss hit = rw (← xs, ← ys, miss, hit) refl

pub next_none : (walk : Walk) (x y : ℤ) → x ≡ units_of walk.x.crossing → y ≡ units_of walk.y.crossing → int_eq x walk.block.row ≡ false → int_eq y walk.block.column ≡ false → walk ≡ next_of walk
unfolding next_of
next_none walk x y xs ys miss other = rw (← xs, ← ys, miss, other) refl
