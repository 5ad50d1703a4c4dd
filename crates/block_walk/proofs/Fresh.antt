-- Lists joined without later repeats, with marks for what was met.
use Rattle.std.proofs.Common.{◌≡◌, ℕ, Bool, true, false, not, ◌&&◌, ◌||◌, eqb, List, [], ◌∷◌, ◌++◌, refl, sym, ap, ◌∙◌, append_assoc, inl, inr, All, length, Option, arith, ◌<◌}
use Rattle.std.specs.List.{filter, filter_map}
use Rattle.std.proofs.lemmas.Bool.{cases_Bool, false≢true, eq-eqb}
use Rattle.std.proofs.lemmas.Bool.Decides.{Decides-eqb}
use Rattle.std.proofs.lemmas.List.{append-nil, length-append}
use Rattle.std.proofs.lemmas.List.Folds.{list_any-append}
use Rattle.std.proofs.lemmas.List.Elements.{All-cons, All-head, All-tail, filter_agree, filter_map-append}
use Rattle.block_walk.specs.Near.{first_ones}
use Rattle.block_walk.specs.Steps.{is_marked, has, Marks, fresh, Adds, itself}

-- ---- tests

or_nil : (a : Bool) → (a || false) ≡ a
or_nil true = refl
or_nil false = refl

or_assoc : (a b c : Bool) → ((a || b) || c) ≡ (a || (b || c))
or_assoc true b c = refl
or_assoc false b c = refl

or_right : (a b : Bool) → b ≡ true → (a || b) ≡ true
or_right true b yes' = refl
or_right false b yes' = yes'

or_left : (a b : Bool) → a ≡ true → (a || b) ≡ true
or_left a b yes' = rw yes' refl

-- ---- what a list has that was not seen

pub fresh_agree : (p q : ℕ → Bool) → ((n : ℕ) → p n ≡ q n) → (xs : List ℕ) → fresh p xs ≡ fresh q xs
fresh_agree p q same [] = refl
fresh_agree p q same (x ∷ xs) = elim (cases_Bool (p x)) [
  | inl seen ↦ rw (seen, sym (same x) ∙ seen) (fresh_agree p q same xs)
  | inr unseen ↦ rw (unseen, sym (same x) ∙ unseen) (ap (λ ys. x ∷ ys) (fresh_agree (λ n. p n || eqb x n) (λ n. q n || eqb x n) (λ n. ap (λ b. b || eqb x n) (same n)) xs))
]

-- a number that was seen adds nothing
seen_again : (seen : ℕ → Bool) (x : ℕ) (xs : List ℕ) → seen x ≡ true → (n : ℕ) → (seen n || has xs n) ≡ (seen n || (eqb x n || has xs n))
seen_again seen x xs was n = elim (cases_Bool (eqb x n)) [
  | inl same ↦
      let here : seen n ≡ true = ap seen (sym ((Decides-eqb x n).0 same)) ∙ was in
      rw (same, here) refl
  | inr other ↦ rw other refl
]

pub fresh-append : (seen : ℕ → Bool) (xs ys : List ℕ) → fresh seen (xs ++ ys) ≡ fresh seen xs ++ fresh (λ n. seen n || has xs n) ys
fresh-append seen [] ys = fresh_agree seen (λ n. seen n || false) (λ n. sym (or_nil (seen n))) ys
fresh-append seen (x ∷ xs) ys = elim (cases_Bool (seen x)) [
  | inl yes' ↦ rw (yes', fresh-append seen xs ys) (ap (λ zs. fresh seen xs ++ zs) (fresh_agree (λ n. seen n || has xs n) (λ n. seen n || (eqb x n || has xs n)) (seen_again seen x xs yes') ys))
  | inr no' ↦ rw (no', fresh-append (λ n. seen n || eqb x n) xs ys) (ap (λ zs. x ∷ (fresh (λ n. seen n || eqb x n) xs ++ zs)) (fresh_agree (λ n. (seen n || eqb x n) || has xs n) (λ n. seen n || (eqb x n || has xs n)) (λ n. or_assoc (seen n) (eqb x n) (has xs n)) ys))
]

pub fresh_all_seen : (seen : ℕ → Bool) (xs : List ℕ) → ((n : ℕ) → has xs n ≡ true → seen n ≡ true) → fresh seen xs ≡ []
fresh_all_seen seen [] all = refl
fresh_all_seen seen (x ∷ xs) all =
    let here : seen x ≡ true = all x (or_left (eqb x x) (has xs x) (eq-eqb x x refl)) in
    rw here (fresh_all_seen seen xs (λ n within. all n (or_right (eqb x n) (has xs n) within)))

pub All-fresh : (P : ℕ → Type 0) (seen : ℕ → Bool) (xs : List ℕ) → All P xs → All P (fresh seen xs)
All-fresh P seen [] all = all
All-fresh P seen (x ∷ xs) all = elim (cases_Bool (seen x)) [
  | inl was ↦ rw was (All-fresh P seen xs (All-tail P x xs all))
  | inr new ↦ rw new (All-cons P x (fresh (λ n. seen n || eqb x n) xs) (All-head P x xs all) (All-fresh P (λ n. seen n || eqb x n) xs (All-tail P x xs all)))
]

-- ---- the first places of a list's elements

filter-filter : (p q : ℕ → Bool) (xs : List ℕ) → filter p (filter q xs) ≡ filter (λ x. q x && p x) xs
filter-filter p q [] = refl
filter-filter p q (x ∷ xs) = elim (cases_Bool (q x)) [
  | inl passes ↦ rw passes (elim (cases_Bool (p x)) [
    | inl both ↦ rw both (ap (λ ys. x ∷ ys) (filter-filter p q xs))
    | inr one ↦ rw one (filter-filter p q xs)
  ])
  | inr fails ↦ rw fails (filter-filter p q xs)
]

-- what was not seen before x, and is not x
not_either : (a b : Bool) → (not b && not a) ≡ not (a || b)
not_either true true = refl
not_either true false = refl
not_either false true = refl
not_either false false = refl

eqb-sym : (a b : ℕ) → eqb a b ≡ eqb b a
eqb-sym a b = elim (cases_Bool (eqb b a)) [
  | inl same ↦ rw same (eq-eqb a b (sym ((Decides-eqb b a).0 same)))
  | inr other ↦ rw other (elim (cases_Bool (eqb a b)) [
    | inl same ↦ absurd (false≢true (sym other ∙ eq-eqb b a (sym ((Decides-eqb a b).0 same))))
    | inr apart ↦ apart
  ])
]

-- an element that was seen is passed also by the test of what was seen
seen_covers : (seen : ℕ → Bool) (x : ℕ) → seen x ≡ true → (y : ℕ) → (not (eqb y x) && not (seen y)) ≡ not (seen y)
seen_covers seen x was y = elim (cases_Bool (eqb y x)) [
  | inl same ↦
      let here : seen y ≡ true = ap seen ((Decides-eqb y x).0 same) ∙ was in
      rw (same, here) refl
  | inr other ↦ rw other refl
]

pub fresh_is : (seen : ℕ → Bool) (xs : List ℕ) → fresh seen xs ≡ filter (λ x. not (seen x)) (first_ones xs)
fresh_is seen [] = refl
fresh_is seen (x ∷ xs) = elim (cases_Bool (seen x)) [
  | inl was ↦ rw (was, filter-filter (λ y. not (seen y)) (λ y. not (eqb y x)) (first_ones xs), fresh_is seen xs)
      (sym (filter_agree (λ y. not (eqb y x) && not (seen y)) (λ y. not (seen y)) (seen_covers seen x was) (first_ones xs)))
  | inr new ↦ rw (new, filter-filter (λ y. not (seen y)) (λ y. not (eqb y x)) (first_ones xs), fresh_is (λ n. seen n || eqb x n) xs)
      (ap (λ ys. x ∷ ys) (filter_agree (λ y. not (seen y || eqb x y)) (λ y. not (eqb y x) && not (seen y)) (λ y. sym (not_either (seen y) (eqb x y)) ∙ ap (λ b. not b && not (seen y)) (eqb-sym x y)) (first_ones xs)))
]

filter_every : (p : ℕ → Bool) → ((x : ℕ) → p x ≡ true) → (xs : List ℕ) → filter p xs ≡ xs
filter_every p every [] = refl
filter_every p every (x ∷ xs) = rw (every x) (ap (λ ys. x ∷ ys) (filter_every p every xs))

-- where nothing was seen
pub fresh_first_ones : (seen : ℕ → Bool) → ((n : ℕ) → seen n ≡ false) → (xs : List ℕ) → fresh seen xs ≡ first_ones xs
fresh_first_ones seen none xs = fresh_is seen xs ∙ filter_every (λ x. not (seen x)) (λ x. ap not (none x)) (first_ones xs)

-- ---- marks

pub Marks-nil : (met : List ℕ) → Marks met met []
Marks-nil met = record { each = λ n. sym (or_nil (is_marked met n)) }

pub Marks-append : (a b c : List ℕ) (xs ys : List ℕ) → Marks a b xs → Marks b c ys → Marks a c (xs ++ ys)
Marks-append a b c xs ys first then' = record {
  each = λ n. then'.each n ∙ (ap (λ t. t || has ys n) (first.each n) ∙ (or_assoc (is_marked a n) (has xs n) (has ys n) ∙ ap (λ t. is_marked a n || t) (sym (list_any-append (λ x. eqb x n) xs ys))));
}

-- a list whose lines are all marked marks nothing
pub Marks_all_seen : (met : List ℕ) (xs : List ℕ) → ((n : ℕ) → has xs n ≡ true → is_marked met n ≡ true) → Marks met met xs
Marks_all_seen met xs all = record {
  each = λ n. elim (cases_Bool (has xs n)) [
    | inl within ↦ rw (within, all n within) refl
    | inr outside ↦ rw outside (sym (or_nil (is_marked met n)))
  ];
}

-- ---- what a walk has done, and what is ahead of it

-- `keep` of a list is made element by element
pub record IsKept {X : Type 0} (keep : List ℕ → List X) : Type 0 where
  pub nil : keep [] ≡ []
  pub append : (xs ys : List ℕ) → keep (xs ++ ys) ≡ keep xs ++ keep ys

-- A walk began with the marks `old` and the list `before`, and all of a list ahead of it. Now it has `met` and
-- `out`, and the rest is ahead: what all gives from the start is what the rest gives from here.
pub record Leads {X : Type 0} (keep : List ℕ → List X) (old met : List ℕ) (before out : List X) (all rest : List ℕ) : Type 0 where
  pub marks : (n : ℕ) → (is_marked met n || has rest n) ≡ (is_marked old n || has all n)
  pub same : out ++ keep (fresh (is_marked met) rest) ≡ before ++ keep (fresh (is_marked old) all)

pub leads_begin : {X : Type 0} (keep : List ℕ → List X) (met : List ℕ) (out : List X) (all : List ℕ) → Leads keep met met out out all all
leads_begin keep met out all = record { marks = λ n. refl; same = refl }

pub leads_step : {X : Type 0} (keep : List ℕ → List X) → IsKept keep → (old met new : List ℕ) (before out next : List X) (all part rest : List ℕ) → Leads keep old met before out all (part ++ rest)
    → Adds keep met new out next part → Leads keep old new before next all rest
leads_step keep kept old met new before out next all part rest leads adds = record {
  marks = λ n. ap (λ t. t || has rest n) (adds.marks.each n) ∙ (or_assoc (is_marked met n) (has part n) (has rest n) ∙ (ap (λ t. is_marked met n || t) (sym (list_any-append (λ x. eqb x n) part rest)) ∙ leads.marks n));
  same =
      let here = fresh_agree (is_marked new) (λ n. is_marked met n || has part n) adds.marks.each rest in
      let both = kept.append (fresh (is_marked met) part) (fresh (λ n. is_marked met n || has part n) rest) in
      let split = fresh-append (is_marked met) part rest in
      rw (adds.more, here) (append_assoc out (keep (fresh (is_marked met) part)) (keep (fresh (λ n. is_marked met n || has part n) rest)) ∙ (ap (λ zs. out ++ zs) (sym both ∙ ap keep (sym split)) ∙ leads.same));
}

pub leads_end : {X : Type 0} (keep : List ℕ → List X) → IsKept keep → (old met : List ℕ) (before out : List X) (all : List ℕ) → Leads keep old met before out all [] → Adds keep old met before out all
leads_end keep kept old met before out all leads = record {
  marks = record { each = λ n. sym (or_nil (is_marked met n)) ∙ leads.marks n };
  more = sym (append-nil out) ∙ (ap (λ zs. out ++ zs) (sym kept.nil) ∙ leads.same);
}

-- ---- the lines themselves

pub itself_kept : IsKept itself
itself_kept = record { nil = refl; append = λ xs ys. refl }

-- ---- what a way crosses

pub filter_map_kept : {X : Type 0} (h : ℕ → Option X) → IsKept (filter_map h)
filter_map_kept h = record { nil = refl; append = filter_map-append h }

-- what is too much already is too much in the end
pub leads_many : {X : Type 0} (keep : List ℕ → List X) → IsKept keep → (old met : List ℕ) (before out : List X) (all part rest : List ℕ) (most : ℕ) → Leads keep old met before out all (part ++ rest)
    → most < length (out ++ keep (fresh (is_marked met) part)) → most < length (before ++ keep (fresh (is_marked old) all))
leads_many keep kept old met before out all part rest most leads many =
    let both = kept.append (fresh (is_marked met) part) (fresh (λ n. is_marked met n || has part n) rest) in
    let split = fresh-append (is_marked met) part rest in
    let end' : before ++ keep (fresh (is_marked old) all) ≡ (out ++ keep (fresh (is_marked met) part)) ++ keep (fresh (λ n. is_marked met n || has part n) rest) =
    sym leads.same ∙ (ap (λ zs. out ++ zs) (ap keep split ∙ both) ∙ sym (append_assoc out (keep (fresh (is_marked met) part)) (keep (fresh (λ n. is_marked met n || has part n) rest)))) in
    rw (end', length-append (out ++ keep (fresh (is_marked met) part)) (keep (fresh (λ n. is_marked met n || has part n) rest))) (omega arith)
