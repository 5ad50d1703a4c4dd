-- Kinds and their numbers.
use Rattle.std.proofs.Common.{◌≡◌, ◌≢◌, ℕ, ◌<◌, ◌≤◌, ◌==◌, true, false, List, length, take, get_or, slice_index_or, sym, ap, ◌∙◌, inl, inr, arith, length-take, All}
use Rattle.std.specs.List.{list_any}
use Rattle.std.specs.List.Sorted.{IsNonDecreasingBy, IsPartitionPoint}
use Rattle.std.specs.Ordering.{nat_cmp, ordering_index}
use Rattle.std.specs.declared.cmp.Ordering.TheVariants.{Less, Equal, Greater}
use Rattle.std.proofs.lemmas.Bool.{false≢true, eq-eqb, cases_lt}
use Rattle.std.proofs.lemmas.Bool.Decides.{Decides-eqb, nat_tests}
use Rattle.std.proofs.lemmas.List.{get_or-take, get_or_default}
use Rattle.std.proofs.lemmas.List.Folds.{Any-from_list_any, list_any_at}
use Rattle.fixed_angle.specs.declared.kind.Kind.{Kind}
use Rattle.fixed_angle.specs.Tables.{kind_number, no_kind, IsNew}

-- no kind of those before kind i has its number
pub new_kind : (kinds : List Kind) (i number : ℕ) → i < length kinds → number ≡ kind_number kinds i → list_any (λ kind. kind.number == number) (take i kinds) ≡ false → IsNew kinds i
new_kind kinds i number at is none k below same =
    let within : k < length (take i kinds) = rw length-take (omega arith) in
    let test : (get_or (take i kinds) k no_kind).number == number ≡ true = rw (get_or-take i kinds k no_kind below) (eq-eqb _ _ (same ∙ sym is)) in
    absurd (false≢true (sym none ∙ list_any_at (λ kind. kind.number == number) (take i kinds) k no_kind within test))

-- one of them has it
pub old_kind : (kinds : List Kind) (i number : ℕ) → i < length kinds → number ≡ kind_number kinds i → list_any (λ kind. kind.number == number) (take i kinds) ≡ true → IsNew kinds i → ⊥
old_kind kinds i number at is some new =
    let found = Any-from_list_any (λ kind. kind.number == number) (take i kinds) some in
    let k = found.0 in
    let short : k < length (take i kinds) = found.2 in
    let below : k < i = omega (arith, length-take i kinds) in
    let place : slice_index_or kinds k no_kind ≡ found.1 = get_or_default kinds k no_kind found.1 (omega arith) ∙ (sym (get_or-take i kinds k found.1 below) ∙ found.3) in
    new k below (ap (λ (kind : Kind). kind.number) place ∙ ((Decides-eqb found.1.number number).0 found.4 ∙ is))

equal_numbers : (a b : ℕ) → nat_cmp a b ≡ Equal → a ≡ b
equal_numbers a b same = grind (arith, nat_tests)

-- what a search for a number found has that number
pub found_number : (kinds : List Kind) (i number : ℕ) (d : Kind) → nat_cmp (slice_index_or kinds i d).number number ≡ Equal → (slice_index_or kinds i d).number ≡ number
found_number kinds i number d same = equal_numbers _ _ same

index_rises : (a b x : ℕ) → a ≤ b → ordering_index (nat_cmp a x) ≤ ordering_index (nat_cmp b x)
index_rises a b x le = grind (arith, nat_tests)

-- kinds in the order of their numbers can be searched for a number
pub can_search : (kinds : List Kind) (number : ℕ) → IsNonDecreasingBy (λ kind. kind.number) kinds → IsNonDecreasingBy (λ kind. ordering_index (nat_cmp kind.number number)) kinds
can_search kinds number rising i j d le lt = index_rises _ _ number (rising i j d le lt)

less_apart : (a b : ℕ) → nat_cmp a b ≡ Less → a ≢ b
less_apart a b less same = grind (arith, nat_tests)

greater_apart : (a b : ℕ) → nat_cmp a b ≡ Greater → a ≢ b
greater_apart a b greater same = grind (arith, nat_tests)

-- where a search ends between lesser and greater numbers, the number is absent
pub not_found : (kinds : List Kind) (number i : ℕ) → IsPartitionPoint (λ kind. nat_cmp kind.number number ≡ Less) (λ kind. nat_cmp kind.number number ≡ Greater) kinds i → All (λ kind. kind.number ≢ number) kinds
not_found kinds number i split k d lt =
    elim (cases_lt k i) [
      | inl below ↦ less_apart _ _ (split.0 k d (omega arith) below)
      | inr above ↦ greater_apart _ _ (split.1 k d above lt)
    ]
