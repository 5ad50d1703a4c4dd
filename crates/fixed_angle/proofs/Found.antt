-- The kind with a number, among kinds in the file's order and in the order of their numbers.
use Rattle.std.proofs.Common.{◌≡◌, ◌≢◌, ℕ, zero, suc, ◌<◌, ◌==◌, Bool, true, false, List, [], ◌∷◌, length, get_or, refl, sym, ap, ◌∙◌, inl, inr, arith, Option, Some, None, All, IsNone, IfSome, IfNone, ◌↔◌}
use Rattle.std.specs.Prelude.{IsPermutation, Contains, find}
use Rattle.std.proofs.lemmas.Bool.{eq-eqb, cases_Bool, cases_order}
use Rattle.std.proofs.lemmas.Bool.Decides.{Decides-eqb}
use Rattle.std.proofs.lemmas.List.{get_or_default}
use Rattle.std.proofs.lemmas.List.Sorted.{IsPermutation-sym, Contains-permutation, All-permutation}
use Rattle.fixed_angle.specs.declared.kind.Kind.{Kind}
use Rattle.fixed_angle.specs.Tables.{kind_number, no_kind, IsNew}

-- an element that passes a test, where no other does, is the first that passes it
find_only : {X : Type 0} (p : X → Bool) (xs : List X) (x : X) (k : ℕ) → p x ≡ true → ((i : ℕ) → i < length xs → p (get_or xs i x) ≡ true → get_or xs i x ≡ x) → k < length xs → get_or xs k x ≡ x → find p xs ≡ Some x
find_only p [] x k passes only lt at = absurd (omega arith)
find_only p (y ∷ ys) x zero passes only lt at =
    let hit : p y ≡ true = ap p at ∙ passes in
    rw hit (ap Some at)
find_only p (y ∷ ys) x (suc k) passes only lt at =
    elim (cases_Bool (p y)) [
      | inl hit ↦ rw hit (ap Some (only 0 (omega arith) hit))
      | inr miss ↦ rw miss (find_only p ys x k passes (λ i below hit. only (suc i) (omega arith) hit) (omega arith) at)
    ]

-- nothing is found where nothing passes
find_none : {X : Type 0} (p : X → Bool) (xs : List X) → ((k : ℕ) (d : X) → k < length xs → p (get_or xs k d) ≡ false) → find p xs ≡ None
find_none p [] fail = refl
find_none p (x ∷ xs) fail =
    let miss : p x ≡ false = fail 0 x (omega arith) in
    rw miss (find_none p xs (λ k d below. fail (suc k) d (omega arith)))

has_number : (kind : Kind) (number : ℕ) → (kind.number == number) ≡ true → kind.number ≡ number
has_number kind number test = (Decides-eqb kind.number number).0 test

lacks_number : (kind : Kind) (number : ℕ) → kind.number ≢ number → (kind.number == number) ≡ false
lacks_number kind number other =
    elim (cases_Bool (kind.number == number)) [
      | inl hit ↦ absurd (other (has_number kind number hit))
      | inr miss ↦ miss
    ]

-- two places of kinds with one number are one place
same_place : (kinds : List Kind) → ((i : ℕ) → i < length kinds → IsNew kinds i) → (i j : ℕ) → i < length kinds → j < length kinds → kind_number kinds i ≡ kind_number kinds j → i ≡ j
same_place kinds new i j li lj same =
    elim (cases_order i j) [
      | inl equal ↦ equal
      | inr apart ↦ elim apart [
        | inl below ↦ absurd (new j lj i below same)
        | inr above ↦ absurd (new i li j above (sym same))
      ]
    ]

-- the kind that a search in order found is the first of that number in the file
pub found_with : (kinds ordered : List Kind) (number : ℕ) (kind : Kind) → IsPermutation kinds ordered → ((i : ℕ) → i < length kinds → IsNew kinds i) → Contains ordered kind → kind.number ≡ number → find (λ k. k.number == number) kinds ≡ Some kind
found_with kinds ordered number kind moved new has is =
    let here = Contains-permutation ordered kinds kind (IsPermutation-sym kinds ordered moved) has in
    let at = here.0 in
    let only : (i : ℕ) → i < length kinds → ((get_or kinds i kind).number == number) ≡ true → get_or kinds i kind ≡ kind =
    λ i below test.
    let left : kind_number kinds i ≡ number = ap (λ (k : Kind). k.number) (get_or_default kinds i no_kind kind below) ∙ has_number (get_or kinds i kind) number test in
    let right : kind_number kinds at ≡ number = ap (λ (k : Kind). k.number) (get_or_default kinds at no_kind kind here.1 ∙ here.2) ∙ is in
    let same : i ≡ at = same_place kinds new i at below here.1 (left ∙ sym right) in
    rw same here.2 in
    find_only (λ k. k.number == number) kinds kind at (eq-eqb kind.number number is) only here.1 here.2

-- where a search in order found nothing, no kind of the file has the number
pub absent_from : (kinds ordered : List Kind) (number : ℕ) → IsPermutation kinds ordered → All (λ kind. kind.number ≢ number) ordered → All (λ kind. kind.number ≢ number) kinds
absent_from kinds ordered number moved none = All-permutation (λ kind. kind.number ≢ number) ordered kinds (IsPermutation-sym kinds ordered moved) none

pub none_with : (kinds : List Kind) (number : ℕ) → All (λ kind. kind.number ≢ number) kinds → find (λ k. k.number == number) kinds ≡ None
none_with kinds number none = find_none (λ k. k.number == number) kinds (λ k d below. lacks_number (get_or kinds k d) number (none k d below))

-- what the search says, as the first kind with the number
pub kind_found : (kinds ordered slice : List Kind) (number : ℕ) (result : Option Kind) → slice ≡ ordered → IsPermutation kinds ordered → ((i : ℕ) → i < length kinds → IsNew kinds i) → IfSome result (λ kind. Contains slice kind) → IfSome result (λ kind. kind.number ≡ number) → IfNone result (All (λ kind. kind.number ≢ number) slice) → result ≡ find (λ k. k.number == number) kinds
kind_found kinds ordered slice number None same moved new has is none = sym (none_with kinds number (absent_from kinds ordered number moved (rw (← same) none)))
kind_found kinds ordered slice number (Some kind) same moved new has is none = sym (found_with kinds ordered number kind moved new (rw (← same) has) is)

-- the search finds nothing just where no kind has the number
pub kind_absent : (kinds ordered slice : List Kind) (number : ℕ) (result : Option Kind) → slice ≡ ordered → IsPermutation kinds ordered → IfSome result (λ kind. Contains slice kind) → IfSome result (λ kind. kind.number ≡ number) → IfNone result (All (λ kind. kind.number ≢ number) slice) → IsNone result ↔ All (λ kind. kind.number ≢ number) kinds
kind_absent kinds ordered slice number None same moved has is none = (λ _. absent_from kinds ordered number moved (rw (← same) none), λ _. refl)
kind_absent kinds ordered slice number (Some kind) same moved has is none =
    let here = Contains-permutation ordered kinds kind (IsPermutation-sym kinds ordered moved) (rw (← same) has) in
    (λ (gone : IsNone (Some kind)). absurd cc, λ all. absurd (all here.0 kind here.1 (ap (λ (k : Kind). k.number) here.2 ∙ is)))
