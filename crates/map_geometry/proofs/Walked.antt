-- The blocks of a box, from one of them on, and without those outside a grid.
use Rattle.std.proofs.Common.{◌≡◌, ℕ, zero, suc, ◌+◌, ◌<◌, Bool, true, false, cond, ℤ, pos, ◌+ℤ◌, ◌-ℤ◌, ◌≤ℤ◌, ◌<ℤ◌, List, [], ◌∷◌, ◌++◌, map, refl, sym, ap, ◌∙◌, inl, inr, arith}
use Rattle.std.specs.Prelude.{int_le, int_lt, ◌&&◌}
use Rattle.std.specs.Int.{int_max, int_min}
use Rattle.std.specs.List.{flat_map}
use Rattle.std.proofs.lemmas.Bool.{cases_Bool}
use Rattle.std.proofs.lemmas.Int.{ints}
use Rattle.std.proofs.lemmas.List.Folds.{flat_map-map}
use Rattle.std.proofs.lemmas.List.Concat.{flat_map-append}
use Rattle.map_geometry.specs.declared.blocks.Block.{Block}
use Rattle.map_geometry.specs.declared.blocks.BlockBox.{BlockBox}
use Rattle.map_geometry.specs.Blocks.{span, column_of, blocks_in, blocks_left, is_in_grid, cut_to_grid}
use Rattle.map_geometry.proofs.Spans.{span_none, span_first, count_of, count_none, count_some}

-- ---- a column from a row on, and a box from a column on

pub column_first : (bottom top column : ℤ) → int_le bottom top ≡ true → column_of bottom top column ≡ record { column = column; row = bottom } ∷ column_of (bottom +ℤ pos 1) top column
column_first bottom top column within = ap (map (λ row. record { column = column; row = row })) (span_first bottom top within)

pub column_none : (bottom top column : ℤ) → int_le bottom top ≡ false → column_of bottom top column ≡ []
column_none bottom top column above = ap (map (λ row. record { column = column; row = row })) (span_none bottom top above)

-- the columns of a box from one on
abbrev pub columns_from : BlockBox → ℤ → List Block
columns_from box column = flat_map (column_of box.bottom box.top) (span column box.right)

pub columns_first : (box : BlockBox) (column : ℤ) → int_le column box.right ≡ true → columns_from box column ≡ column_of box.bottom box.top column ++ columns_from box (column +ℤ pos 1)
columns_first box column within = ap (flat_map (column_of box.bottom box.top)) (span_first column box.right within)

pub columns_none : (box : BlockBox) (column : ℤ) → int_le column box.right ≡ false → columns_from box column ≡ []
columns_none box column above = ap (flat_map (column_of box.bottom box.top)) (span_none column box.right above)

-- a box from the bottom of one of its columns on
pub left_columns : (box : BlockBox) (column : ℤ) → blocks_left box (record { column = column; row = box.bottom }) ≡ columns_from box column
left_columns box column = elim (cases_Bool (int_le column box.right)) [
  | inl within ↦ rw within (sym (columns_first box column within))
  | inr past ↦ rw past (sym (columns_none box column past))
]

pub left_none_columns : (box : BlockBox) (column row : ℤ) → int_le column box.right ≡ false → blocks_left box (record { column = column; row = row }) ≡ []
left_none_columns box column row past = rw past refl

no_columns : (bottom top : ℤ) → int_le bottom top ≡ false → (columns : List ℤ) → flat_map (column_of bottom top) columns ≡ []
no_columns bottom top above [] = refl
no_columns bottom top above (column ∷ columns) = rw (column_none bottom top column above) (no_columns bottom top above columns)

pub left_none_rows : (box : BlockBox) (column row : ℤ) → int_le row box.top ≡ false → int_le box.bottom box.top ≡ false → blocks_left box (record { column = column; row = row }) ≡ []
left_none_rows box column row past none = elim (cases_Bool (int_le column box.right)) [
  | inl within ↦ rw (within, column_none row box.top column past) (no_columns box.bottom box.top none (span (column +ℤ pos 1) box.right))
  | inr outside ↦ rw outside refl
]

-- the block above is the next one
pub left_row : (box : BlockBox) (column row : ℤ) → int_le column box.right ≡ true → int_le row box.top ≡ true
    → blocks_left box (record { column = column; row = row }) ≡ record { column = column; row = row } ∷ blocks_left box (record { column = column; row = row +ℤ pos 1 })
left_row box column row within below = rw (within, column_first row box.top column below) refl

-- behind the top of a column comes the bottom of the next one
pub left_top : (box : BlockBox) (column row : ℤ) → int_le column box.right ≡ true → int_le row box.top ≡ true → int_le (row +ℤ pos 1) box.top ≡ false
    → blocks_left box (record { column = column; row = row }) ≡ record { column = column; row = row } ∷ blocks_left box (record { column = column +ℤ pos 1; row = box.bottom })
left_top box column row within below top =
    rw (within, column_first row box.top column below, column_none (row +ℤ pos 1) box.top column top)
    (ap (λ rest. record { column = column; row = row } ∷ rest) (sym (left_columns box (column +ℤ pos 1))))

-- ---- a box without what lies outside a grid

-- lists of numbers between two others, where those outside have none
module _ {X : Type 0} (f : ℤ → List X) (lo hi : ℤ) (below : (z : ℤ) → z <ℤ lo → f z ≡ []) (above : (z : ℤ) → hi <ℤ z → f z ≡ []) where
  none_in : (low high : ℤ) → int_le low high ≡ false → flat_map f (span low high) ≡ []
  none_in low high past = ap (flat_map f) (span_none low high past)

  first_in : (low high : ℤ) → int_le low high ≡ true → flat_map f (span low high) ≡ f low ++ flat_map f (span (low +ℤ pos 1) high)
  first_in low high within = ap (flat_map f) (span_first low high within)

  -- one number more in front
  step : (low high : ℤ) → int_le low high ≡ true → f low ++ flat_map f (span (int_max (low +ℤ pos 1) lo) (int_min high hi)) ≡ flat_map f (span (int_max low lo) (int_min high hi))
  step low high within = elim (cases_Bool (int_lt low lo)) [
    | inl outside ↦
        let same : int_max (low +ℤ pos 1) lo ≡ int_max low lo = grind (arith, ints, outside) in
        rw (below low (search (arith, ints, outside)), same) refl
    | inr inside ↦
        let here : int_max low lo ≡ low = grind (arith, ints, inside) in
        let next : int_max (low +ℤ pos 1) lo ≡ low +ℤ pos 1 = grind (arith, ints, inside) in
        rw (here, next) (elim (cases_Bool (int_le low hi)) [
          | inl on ↦
              let both : int_le low (int_min high hi) ≡ true = grind (arith, ints, on, within) in
              sym (first_in low (int_min high hi) both)
          | inr past ↦
              let none : int_le low (int_min high hi) ≡ false = grind (arith, ints, past) in
              let none' : int_le (low +ℤ pos 1) (int_min high hi) ≡ false = grind (arith, ints, past) in
              rw (above low (search (arith, ints, past)), none_in low (int_min high hi) none, none_in (low +ℤ pos 1) (int_min high hi) none') refl
        ])
  ]

  narrowed : (n : ℕ) (low high : ℤ) → count_of low high ≡ n → flat_map f (span low high) ≡ flat_map f (span (int_max low lo) (int_min high hi))
  narrowed zero low high none =
      let past = count_none low high none in
      let past' : int_le (int_max low lo) (int_min high hi) ≡ false = grind (arith, ints, past) in
      none_in low high past ∙ sym (none_in (int_max low lo) (int_min high hi) past')
  narrowed (suc n) low high more =
      let some = count_some n low high more in
      first_in low high some.0 ∙ (ap (λ rest. f low ++ rest) (narrowed n (low +ℤ pos 1) high some.1) ∙ step low high some.0)

  pub cut_span : (low high : ℤ) → flat_map f (span low high) ≡ flat_map f (span (int_max low lo) (int_min high hi))
  cut_span low high = narrowed (count_of low high) low high refl

-- ---- one step of a walk through a box

module _ (box : BlockBox) (at : Block) (now : List Block) (view : blocks_left box at ≡ now) where
  pub step_past : int_lt box.right at.column ≡ true → now ≡ []
  step_past past = let outside : int_le at.column box.right ≡ false = grind (arith, ints, past) in sym view ∙ left_none_columns box at.column at.row outside

  pub step_empty : (box.top <ℤ at.row → box.top <ℤ box.bottom) → int_lt box.top at.row ≡ true → now ≡ []
  step_empty row above =
      let past : int_le at.row box.top ≡ false = grind (arith, ints, above) in
      let over : box.top <ℤ at.row = search (arith, ints, above) in
      let none : box.top <ℤ box.bottom = row over in
      let empty : int_le box.bottom box.top ≡ false = grind (arith, ints, none) in
      sym view ∙ left_none_rows box at.column at.row past empty

  pub step_up : int_lt box.right at.column ≡ false → int_lt at.row box.top ≡ true → now ≡ at ∷ blocks_left box (record { column = at.column; row = at.row +ℤ pos 1 })
  step_up inside below =
      let within : int_le at.column box.right ≡ true = grind (arith, ints, inside) in
      let on : int_le at.row box.top ≡ true = grind (arith, ints, below) in
      sym view ∙ left_row box at.column at.row within on

  pub step_right : int_lt box.right at.column ≡ false → int_lt box.top at.row ≡ false → int_lt at.row box.top ≡ false → now ≡ at ∷ blocks_left box (record { column = at.column +ℤ pos 1; row = box.bottom })
  step_right inside on last =
      let within : int_le at.column box.right ≡ true = grind (arith, ints, inside) in
      let here : int_le at.row box.top ≡ true = grind (arith, ints, on) in
      let over : int_le (at.row +ℤ pos 1) box.top ≡ false = grind (arith, ints, last) in
      sym view ∙ left_top box at.column at.row within here over

-- ---- a box within a grid

pub cut_right : (width height : ℕ) (box cut : BlockBox) → width < 32768 → cut ≡ cut_to_grid width height box → cut.right ≤ℤ pos 65535
unfolding cut_to_grid
cut_right width height box cut small is = rw is (let low : pos width ≤ℤ pos 32767 = search (arith, ints, small) in grind (arith, ints, low))

-- ---- what is joined over the blocks of a box, where the blocks outside a grid have nothing

flat_map_each : {X Y : Type 0} (f g : X → List Y) → ((x : X) → f x ≡ g x) → (xs : List X) → flat_map f xs ≡ flat_map g xs
flat_map_each f g same [] = refl
flat_map_each f g same (x ∷ xs) = ap (λ front. front ++ flat_map f xs) (same x) ∙ ap (λ rest. g x ++ rest) (flat_map_each f g same xs)

flat_map_empty : {X Y : Type 0} (f : X → List Y) → ((x : X) → f x ≡ []) → (xs : List X) → flat_map f xs ≡ []
flat_map_empty f none [] = refl
flat_map_empty f none (x ∷ xs) = rw (none x) (flat_map_empty f none xs)

flat_map_twice : {X Y Z : Type 0} (f : Y → List Z) (h : X → List Y) (xs : List X) → flat_map f (flat_map h xs) ≡ flat_map (λ x. flat_map f (h x)) xs
flat_map_twice f h [] = refl
flat_map_twice f h (x ∷ xs) = flat_map-append f (h x) (flat_map h xs) ∙ ap (λ rest. flat_map f (h x) ++ rest) (flat_map_twice f h xs)

both_fail : (a : Bool) → (a && false) ≡ false
both_fail true = refl
both_fail false = refl

out_left : (width height : ℕ) (column row : ℤ) → column <ℤ pos 0 → is_in_grid width height column row ≡ false
out_left width height column row left = let test : int_le (pos 0) column ≡ false = grind (arith, ints, left) in rw test refl

out_right : (width height : ℕ) (column row : ℤ) → (pos width -ℤ pos 1) <ℤ column → is_in_grid width height column row ≡ false
out_right width height column row right = let test : int_lt column (pos width) ≡ false = grind (arith, ints, right) in rw (test, both_fail (int_le (pos 0) column)) refl

out_below : (width height : ℕ) (column row : ℤ) → row <ℤ pos 0 → is_in_grid width height column row ≡ false
out_below width height column row below = let test : int_le (pos 0) row ≡ false = grind (arith, ints, below) in rw test (both_fail (int_le (pos 0) column && int_lt column (pos width)))

out_above : (width height : ℕ) (column row : ℤ) → (pos height -ℤ pos 1) <ℤ row → is_in_grid width height column row ≡ false
out_above width height column row above =
    let test : int_lt row (pos height) ≡ false = grind (arith, ints, above) in
    rw (test, both_fail (int_le (pos 0) row)) (both_fail (int_le (pos 0) column && int_lt column (pos width)))

module _ {X : Type 0} (f : Block → List X) (width height : ℕ) (outside : (column row : ℤ) → is_in_grid width height column row ≡ false → f (record { column = column; row = row }) ≡ []) where
  by_rows : (bottom top column : ℤ) → flat_map f (column_of bottom top column) ≡ flat_map (λ row. f (record { column = column; row = row })) (span bottom top)
  by_rows bottom top column = flat_map-map f (λ (row : ℤ). record { column = column; row = row }) (span bottom top)

  cut_rows : (bottom top column : ℤ) → flat_map f (column_of bottom top column) ≡ flat_map f (column_of (int_max bottom (pos 0)) (int_min top (pos height -ℤ pos 1)) column)
  cut_rows bottom top column =
      by_rows bottom top column
      ∙ cut_span (λ row. f (record { column = column; row = row })) (pos 0) (pos height -ℤ pos 1) (λ row below. outside column row (out_below width height column row below)) (λ row above. outside column row (out_above width height column row above)) bottom top
      ∙ sym (by_rows (int_max bottom (pos 0)) (int_min top (pos height -ℤ pos 1)) column)

  empty_column : (bottom top column : ℤ) → ((row : ℤ) → is_in_grid width height column row ≡ false) → flat_map f (column_of bottom top column) ≡ []
  empty_column bottom top column out = by_rows bottom top column ∙ flat_map_empty (λ row. f (record { column = column; row = row })) (λ row. outside column row (out row)) (span bottom top)

  pub cut_blocks : (box : BlockBox) → flat_map f (blocks_in box) ≡ flat_map f (blocks_in (cut_to_grid width height box))
  unfolding cut_to_grid
  cut_blocks box =
      let low = int_max box.bottom (pos 0) in
      let high = int_min box.top (pos height -ℤ pos 1) in
      flat_map_twice f (column_of box.bottom box.top) (span box.left box.right)
      ∙ flat_map_each (λ column. flat_map f (column_of box.bottom box.top column)) (λ column. flat_map f (column_of low high column)) (cut_rows box.bottom box.top) (span box.left box.right)
      ∙ cut_span (λ column. flat_map f (column_of low high column)) (pos 0) (pos width -ℤ pos 1)
      (λ column left. empty_column low high column (λ row. out_left width height column row left))
      (λ column right. empty_column low high column (λ row. out_right width height column row right)) box.left box.right
      ∙ sym (flat_map_twice f (column_of low high) (span (int_max box.left (pos 0)) (int_min box.right (pos width -ℤ pos 1))))
