-- Places whose sector a level was told.
use Rattle.std.proofs.Common.{◌≡◌, ℕ, ℤ, List, All, refl, sym, subst, arith, slice_index_or}
use Rattle.std.specs.List.Sorted.{IsPermutation}
use Rattle.std.specs.Ordering.{int_cmp, ordering_then}
use Rattle.std.specs.declared.cmp.Ordering.{Ordering}
use Rattle.std.specs.declared.cmp.Ordering.TheVariants.{Less, Equal, Greater}
use Rattle.std.proofs.lemmas.Int.{ints}
use Rattle.std.proofs.lemmas.List.Sorted.{All-permutation}
use Rattle.map_geometry.specs.declared.known.Known.{Known}
use Rattle.map_geometry.specs.Lists.{Lists}
use Rattle.map_geometry.specs.Places.{IsKnownIn}

same_number : (a b : ℤ) → int_cmp a b ≡ Equal → a ≡ b
same_number a b same = grind (arith, ints)

both_equal : (p q : Ordering) → ordering_then p q ≡ Equal → (p ≡ Equal) × (q ≡ Equal)
both_equal Less q same = absurd cc
both_equal Equal q same = (refl, same)
both_equal Greater q same = absurd cc

-- what compares as equal to a place, by x and then by y, is known of that place
pub same_place : (known : List Known) (i : ℕ) (x y : ℤ) (d : Known) → ordering_then (int_cmp (slice_index_or known i d).x x) (int_cmp (slice_index_or known i d).y y) ≡ Equal
    → ((slice_index_or known i d).x ≡ x) × ((slice_index_or known i d).y ≡ y)
same_place known i x y d same =
    let both = both_equal (int_cmp (slice_index_or known i d).x x) (int_cmp (slice_index_or known i d).y y) same in
    (same_number _ x both.0, same_number _ y both.1)

-- an order changes nothing of what is known
pub in_order : (l now : Lists) (told kept : List Known) → l ≡ now → IsPermutation told kept → All (IsKnownIn now) told → All (IsKnownIn l) kept
in_order l now told kept same moved are = subst (λ m. All (IsKnownIn m) kept) (sym same) (All-permutation (IsKnownIn now) told kept moved are)
