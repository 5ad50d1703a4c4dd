-- The workers of a search, and what they hand back together.
use Rattle.std.proofs.Common.{◌≡◌, ℕ, zero, suc, ◌+◌, ◌-◌, ◌^◌, ◌≤◌, Bool, min, List, [], ◌∷◌, ◌++◌, length, get_or, Result, Ok, Err, IfOk, refl, sym, ◌∙◌, ap, subst, arith}
use Rattle.std.specs.Prelude.{All, sum_by}
use Rattle.std.proofs.lemmas.List.{length_push, get_or_append_left, get_or_push}
use Rattle.std.proofs.lemmas.List.Elements.{All-append}
use Rattle.std.proofs.lemmas.List.Sums.{sum_by-append}
use Rattle.doom_edge.specs.Counts.{raised}
use Rattle.brute_ranges.specs.Space.{Ranges}
use Rattle.atomic_table.specs.Seated.{TableId}
use Rattle.claim_board.specs.declared.view.View.{View}
use Rattle.claim_board.specs.Views.{joined, after_split, split_off}
use Rattle.claim_board.specs.Seated.{Seated}
use Rattle.brute_run.specs.Search.{count_of}
use Rattle.brute_run.specs.Costs.{block_cost}
use Rattle.brute_run.specs.Working.{first_passing, least_block, HasWorked}

-- a fact of what was answered
pub if_ok : {A E : Type 0} (r : Result A E) (P : A → Type 0) (v : A) → r ≡ Ok v → IfOk r P → P v
if_ok r P v is = subst (λ s. IfOk s P → P v) (sym is) (λ h. h)

-- two facts of it
pub both_ok : {A E : Type 0} (r : Result A E) (P Q : A → Type 0) → IfOk r P → IfOk r Q → IfOk r (λ v. P v × Q v)
both_ok (Ok v) P Q one two = (one, two)
both_ok (Err e) P Q one two = one

-- a list without its last entry
pub all_front : {X : Type 0} (P : X → Type 0) (xs front : List X) (x : X) → xs ≡ front ++ x ∷ [] → All P xs → All P front
all_front P xs front x is all k d within =
    subst P (get_or_append_left front (x ∷ []) d k within) (subst (λ l. P (get_or l k d)) is (all k d (omega (arith, ap length is, length_push front x))))

pub all_last : {X : Type 0} (P : X → Type 0) (xs front : List X) (x : X) → xs ≡ front ++ x ∷ [] → All P xs → P x
all_last P xs front x is all =
    subst P (get_or_push front x x (length front) refl) (subst (λ l. P (get_or l (length front) x)) is (all (length front) x (omega (arith, ap length is, length_push front x))))

pub all_push : {X : Type 0} (P : X → Type 0) (xs now : List X) (x : X) → now ≡ xs ++ x ∷ [] → All P xs → P x → All P now
all_push {X = X} P xs now x is all last = rw is (All-append P xs (x ∷ []) all one)
  where
    one : All P (x ∷ [])
    one zero d within = last
    one (suc k) d within = absurd (omega arith)

-- two counters together
sum_least : (a b x y : ℕ) → min x (2 ^ 64 - 1) ≤ a → min y (2 ^ 64 - 1) ≤ b → min (x + y) (2 ^ 64 - 1) ≤ raised a b
unfolding raised
sum_least a b x y one two = omega arith

sum_most : (a b x y : ℕ) → a ≤ x → b ≤ y → raised a b ≤ x + y
unfolding raised
sum_most a b x y one two = omega arith

pub gathered : (test : ℕ → Bool) (ranges : Ranges) (parts own whole : ℕ) (v w both : View) (a b total : ℕ) → HasWorked test ranges parts v a → HasWorked test ranges own w b
    → both ≡ joined v w → total ≡ raised a b → parts + own ≡ whole → HasWorked test ranges whole both total
gathered test ranges parts own whole v w both a b total did other is counted sum = rw (is, counted) (record {
  count_is = did.count_is;
  block_is = did.block_is;
  meets_are = did.meets_are;
  over = (did.over.0, did.over.1, omega (arith, did.over.2));
  whole = omega (arith, did.whole, other.whole);
  first = omega (arith, did.first, other.first);
  most = omega (
    arith,
    sum_most a b (sum_by (block_cost test ranges) v.mine) (sum_by (block_cost test ranges) w.mine) did.most other.most,
    sum_by-append (block_cost test ranges) v.mine w.mine,
  );
  least =
      let f : ℕ → ℕ = least_block ranges (first_passing test (count_of ranges)) in
      omega (arith, sum_least a b (sum_by f v.mine) (sum_by f w.mine) did.least other.least, sum_by-append f v.mine w.mine);
})

-- a seat that splits, and the seat that it splits off, as they follow from the first view
pub split_view : (first view after : View) → view ≡ record first { spare = view.spare } → after ≡ after_split view → after ≡ record first { spare = after.spare }
split_view first view after is splits =
    let whole : after ≡ record first { spare = view.spare - 1 } = splits ∙ ap after_split is in
    let spare : after.spare ≡ view.spare - 1 = ap (λ (v : View). v.spare) splits in
    whole ∙ ap (λ (n : ℕ). record first { spare = n }) (sym spare)

pub split_new : (first : View) (seat made : Seated) (board : TableId) → seat.board ≡ board → seat.view ≡ record first { spare = seat.view.spare } → made ≡ record seat { view = split_off seat.view }
    → made ≡ record { board = board; view = split_off first }
split_new first seat made board own is splits =
    splits ∙ ap (λ (v : View). let s : Seated = record { board = seat.board; view = split_off v } in s) is ∙ ap (λ (b : TableId). let s : Seated = record { board = b; view = split_off first } in s) own
