-- The block with a number is one column and row, and the link order's things of it are those that lie there.
use Rattle.std.proofs.Common.{◌≡◌, ℕ, ◌<◌, ◌==◌, ℤ, pos, negsuc, Bool, true, false, List, [], ◌∷◌, length, get_or, Some, None, All, refl, sym, ap, ◌∙◌, inl, inr}
use Rattle.std.specs.Prelude.{◌&&◌, filter, int_le, int_lt, unsigned_abs}
use Rattle.std.specs.Bool.{Decides}
use Rattle.std.specs.Option.{option_map_or}
use Rattle.std.specs.Ordering.{int_eq}
use Rattle.std.proofs.lemmas.Bool.{cases_Bool, eq-eqb}
use Rattle.std.proofs.lemmas.Bool.Decides.{same_from_decides, Decides-eqb, Decides-int_eq, Decides-and, Decides-ltb}
use Rattle.std.proofs.lemmas.Option.{cond_some}
use Rattle.std.proofs.lemmas.List.Elements.{All-head, All-tail, All-map, All-filter}
use Rattle.std.proofs.lemmas.Nat.{same_from_place}
use Rattle.map_geometry.specs.Blocks.{block_number, is_in_grid, cell_number}
use Rattle.link_order.specs.declared.linked.Linked.{Linked}
use Rattle.link_order.specs.Links.{stands_in, block_things}
use Rattle.cow_world.specs.declared.records.Thing.{Thing}
use Rattle.cow_world.specs.declared.grid.Grid.{Grid}
use Rattle.cow_world.specs.Flat.{no_thing}
use Rattle.cow_world.specs.Places.{is_in_block, is_present, cell_at}
use Rattle.cow_world.specs.Kept.{IsEntry, things_of}

both : (a b : Bool) → (a && b) ≡ true → (a ≡ true) × (b ≡ true)
both true b test = (refl, test)
both false b test = absurd cc

not_negative : (at : ℤ) → int_le (pos 0) at ≡ true → at ≡ pos (unsigned_abs at)
not_negative (pos k) test = refl
not_negative (negsuc k) test = absurd cc

below : (at : ℤ) (end : ℕ) → int_le (pos 0) at ≡ true → int_lt at (pos end) ≡ true → unsigned_abs at < end
below (pos k) end test low = (Decides-ltb k end).0 low
below (negsuc k) end test low = absurd cc

-- a column and a row that the grid has
record IsInGrid (grid : Grid) (column row : ℤ) : Type 0 where
  column_is : column ≡ pos (unsigned_abs column)
  row_is : row ≡ pos (unsigned_abs row)
  narrow : unsigned_abs column < grid.width

inside : (grid : Grid) (column row : ℤ) → is_in_grid grid.width grid.height column row ≡ true → IsInGrid grid column row
inside grid column row test =
    let halves = both (int_le (pos 0) column && int_lt column (pos grid.width)) (int_le (pos 0) row && int_lt row (pos grid.height)) test in
    let across = both (int_le (pos 0) column) (int_lt column (pos grid.width)) halves.0 in
    let along = both (int_le (pos 0) row) (int_lt row (pos grid.height)) halves.1 in
    record {
      column_is = not_negative column across.0;
      row_is = not_negative row along.0;
      narrow = below column grid.width across.0 across.1;
    }

-- two blocks of one number are one block
same_block : (grid : Grid) (column row c r : ℤ) → IsInGrid grid column row → IsInGrid grid c r → cell_number grid.width c r ≡ cell_number grid.width column row → (c ≡ column) × (r ≡ row)
same_block grid column row c r here there same =
    let places = same_from_place (unsigned_abs r) (unsigned_abs c) (unsigned_abs row) (unsigned_abs column) grid.width there.narrow here.narrow same in
    (there.column_is ∙ (ap (λ n. pos n) places.1 ∙ sym here.column_is), there.row_is ∙ (ap (λ n. pos n) places.0 ∙ sym here.row_is))

-- the block of a column and row has a number just where it is the block with that number
numbered : (grid : Grid) (column row c r : ℤ) (block : ℕ) → is_in_grid grid.width grid.height column row ≡ true → cell_number grid.width column row ≡ block → Decides (option_map_or (λ b. b == block) (cell_at grid c r) false) ((c ≡ column) × (r ≡ row))
numbered grid column row c r block has is = (λ test. onto test, λ same. back same)
  where
    onto : option_map_or (λ b. b == block) (cell_at grid c r) false ≡ true → (c ≡ column) × (r ≡ row)
    onto test =
        elim (cases_Bool (is_in_grid grid.width grid.height c r)) [
          | inl within ↦
              let hit : (cell_number grid.width c r == block) ≡ true = rw within at test in
              let equal : cell_number grid.width c r ≡ block = (Decides-eqb (cell_number grid.width c r) block).0 hit in
              same_block grid column row c r (inside grid column row has) (inside grid c r within) (equal ∙ sym is)
          | inr out ↦
              let miss : false ≡ true = rw out at test in
              absurd cc
        ]

    back : (c ≡ column) × (r ≡ row) → option_map_or (λ b. b == block) (cell_at grid c r) false ≡ true
    back same =
        let test : (cell_number grid.width column row == block) ≡ true = eq-eqb (cell_number grid.width column row) block is in
        rw (same.0, same.1, has) test

-- an entry stands in the block with a number just where its thing lies in that block
stands_is : (things : List Thing) (grid : Grid) (column row : ℤ) (block : ℕ) (entry : Linked) → is_in_grid grid.width grid.height column row ≡ true → cell_number grid.width column row ≡ block → IsEntry things grid entry → stands_in block entry ≡ is_in_block grid column row (get_or things entry.thing no_thing)
stands_is things grid column row block entry has is kept =
    let thing : Thing = get_or things entry.thing no_thing in
    let c : ℤ = block_number grid.origin_x thing.x in
    let r : ℤ = block_number grid.origin_y thing.y in
    let by_number = numbered grid column row c r block has is in
    let by_place = Decides-and (int_eq c column) (int_eq r row) (Decides-int_eq c column) (Decides-int_eq r row) in
    let same : option_map_or (λ b. b == block) (cell_at grid c r) false ≡ (int_eq c column && int_eq r row) = same_from_decides _ _ by_number by_place in
    rw (kept.block, has) same

-- the present things of the block with a number
pub present_in : (things : List Thing) (grid : Grid) (column row : ℤ) (block : ℕ) (order : List Linked) → cell_at grid column row ≡ Some block → All (IsEntry things grid) order → filter (is_present things) (block_things block order) ≡ filter (λ i. is_present things i && is_in_block grid column row (get_or things i no_thing)) (things_of order)
present_in things grid column row block [] cell kept = refl
present_in things grid column row block (entry ∷ rest) cell kept =
    let parts = cond_some (is_in_grid grid.width grid.height column row) (cell_number grid.width column row) block cell in
    let stands = stands_is things grid column row block entry parts.0 parts.1 (All-head (IsEntry things grid) entry rest kept) in
    let others = present_in things grid column row block rest cell (All-tail (IsEntry things grid) entry rest kept) in
    elim (cases_Bool (is_in_block grid column row (get_or things entry.thing no_thing))) [
      | inl lies ↦ elim (cases_Bool (is_present things entry.thing)) [
        | inl present ↦ rw (stands, lies, present, others) refl
        | inr gone ↦ rw (stands, lies, gone, others) refl
      ]
      | inr apart ↦ elim (cases_Bool (is_present things entry.thing)) [
        | inl present ↦ rw (stands, apart, present, others) refl
        | inr gone ↦ rw (stands, apart, gone, others) refl
      ]
    ]

-- a block outside the grid has none
pub none_outside : (things : List Thing) (grid : Grid) (column row : ℤ) (order : List ℕ) → cell_at grid column row ≡ None → filter (λ i. is_present things i && is_in_block grid column row (get_or things i no_thing)) order ≡ []
none_outside things grid column row order cell =
    elim (cases_Bool (is_in_grid grid.width grid.height column row)) [
      | inl within ↦
          let wrong : Some (cell_number grid.width column row) ≡ None = rw within at cell in
          absurd cc
      | inr out ↦ none order out
    ]
  where
    none : (order : List ℕ) → is_in_grid grid.width grid.height column row ≡ false → filter (λ i. is_present things i && is_in_block grid column row (get_or things i no_thing)) order ≡ []
    none [] out = refl
    none (i ∷ rest) out =
        elim (cases_Bool (is_present things i)) [
          | inl present ↦ rw (present, out) (none rest out)
          | inr gone ↦ rw gone (none rest out)
        ]

-- and those of any are there
pub all_there : (things : List Thing) (grid : Grid) (order : List Linked) (test : ℕ → Bool) → All (IsEntry things grid) order → All (λ i. i < length things) (filter test (things_of order))
all_there things grid order test kept =
    let There : ℕ → Type 0 = λ i. i < length things in
    let named : All There (things_of order) = All-map There (λ (entry : Linked). entry.thing) order (λ k d below. (kept k d below).there) in
    All-filter test There (things_of order) named
