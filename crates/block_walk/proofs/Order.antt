-- Pairs in the order of their fractions: there is one stable order, which is the one that placing them gives.
use Rattle.std.proofs.Common.{◌≡◌, ℕ, suc, ◌<◌, ◌≤◌, Bool, true, false, not, ◌&&◌, cond, ℤ, List, [], ◌∷◌, ◌++◌, length, get_or, refl, sym, ap, ◌∙◌, inl, inr, arith, append_assoc, All}
use Rattle.std.specs.Prelude.{pos, int_lt, int_le, fold}
use Rattle.std.specs.List.{filter}
use Rattle.std.specs.List.Sorted.{IsSortedByKey, IsStableByKey}
use Rattle.std.specs.Ordering.{int_cmp, is_lt}
use Rattle.std.specs.declared.cmp.Ordering.TheVariants.{Less, Equal, Greater}
use Rattle.std.specs.Cmp.{IsStrictWeakOrder}
use Rattle.std.proofs.lemmas.Bool.{cases_Bool, false≢true}
use Rattle.std.proofs.lemmas.Int.{ints}
use Rattle.std.proofs.lemmas.List.Elements.{All-nil, All-cons, All-head, All-tail, All-filter, filter-append}
use Rattle.std.proofs.lemmas.List.{append-nil}
use Rattle.std.proofs.lemmas.List.Sorted.{sorted_far}
use Rattle.block_walk.specs.Traces.{placed, in_order, reached}

abbrev Pair : Type 0
Pair = ℤ × ℕ

-- whether a pair comes before another, as the sort compares them
abbrev before : Pair → Pair → Bool
before p q = is_lt (int_cmp p.0 q.0)

less_of : (a b : Bool) → is_lt (cond a Less (cond b Greater Equal)) ≡ a
less_of true b = refl
less_of false true = refl
less_of false false = refl

before_is : (p q : Pair) → before p q ≡ int_lt p.0 q.0
before_is p q = less_of (int_lt p.0 q.0) (int_lt q.0 p.0)

less_one_way : (a b : ℤ) → int_lt a b ≡ true → int_lt b a ≡ false
less_one_way a b less = grind (arith, ints)

less_chain : (a b c : ℤ) → int_lt a b ≡ false → int_lt b c ≡ false → int_lt a c ≡ false
less_chain a b c first then' = grind (arith, ints)

one_way : (p q : Pair) → before p q ≡ true → before q p ≡ false
one_way p q less = before_is q p ∙ less_one_way p.0 q.0 (sym (before_is p q) ∙ less)

chain : (p q r : Pair) → before p q ≡ false → before q r ≡ false → before p r ≡ false
chain p q r a b = before_is p r ∙ less_chain p.0 q.0 r.0 (sym (before_is p q) ∙ a) (sym (before_is q r) ∙ b)

order : IsStrictWeakOrder before
order = record { one_way = one_way; chain = chain }

not_itself : (p : Pair) → before p p ≡ false
not_itself p = elim (cases_Bool (before p p)) [
  | inl less ↦ one_way p p less
  | inr not_less ↦ not_less
]

-- neither comes before the other
abbrev tie : Pair → Pair → Bool
tie p q = not (before p q) && not (before q p)

tie_from : (p q : Pair) → before p q ≡ false → before q p ≡ false → tie p q ≡ true
tie_from p q a b = rw (a, b) refl

tie_left : (p q : Pair) → tie p q ≡ true → before p q ≡ false
tie_left p q t = elim (cases_Bool (before p q)) [
  | inl yes' ↦ absurd (false≢true (rw yes' at t))
  | inr no' ↦ no'
]

tie_right : (p q : Pair) → tie p q ≡ true → before q p ≡ false
tie_right p q t = elim (cases_Bool (before q p)) [
  | inl yes' ↦ absurd (false≢true (rw (tie_left p q t, yes') at t))
  | inr no' ↦ no'
]

tie_itself : (p : Pair) → tie p p ≡ true
tie_itself p = tie_from p p (not_itself p) (not_itself p)

-- ---- in order: none comes before an earlier one

abbrev Rises : List Pair → Type 0
Rises [] = Unit {0}
Rises (p ∷ ps) = All (λ q. before q p ≡ false) ps × Rises ps

-- a pair that is filtered out first is in the list
first_is : (P : Pair → Type 0) (test : Pair → Bool) (ps rest : List Pair) (p : Pair) → All P ps → filter test ps ≡ p ∷ rest → P p
first_is P test [] rest p all is = absurd cc
first_is P test (q ∷ ps) rest p all is = elim (cases_Bool (test q)) [
  | inl passes ↦
      let same : q ∷ filter test ps ≡ p ∷ rest = rw passes at is in
      let here : q ≡ p = cc in
      rw (← here) (All-head P q ps all)
  | inr fails ↦ first_is P test ps rest p (All-tail P q ps all) (rw fails at is)
]

-- of two lists in order whose ties stand alike, the first ones are the same
same_first : (p q : Pair) (ps qs : List Pair) → Rises (p ∷ ps) → Rises (q ∷ qs) → ((r : Pair) → filter (tie r) (p ∷ ps) ≡ filter (tie r) (q ∷ qs)) → p ≡ q
same_first p q ps qs rises_p rises_q alike = elim (cases_Bool (tie p q)) [
  | inl tied ↦
      let same : p ∷ filter (tie p) ps ≡ q ∷ filter (tie p) qs = rw (tie_itself p, tied) at (alike p) in
      cc
  | inr apart ↦
      let at_p : p ∷ filter (tie p) ps ≡ filter (tie p) qs = rw (tie_itself p, apart) at (alike p) in
      let p_later : before p q ≡ false = first_is (λ r. before r q ≡ false) (tie p) qs (filter (tie p) ps) p rises_q.0 (sym at_p) in
      elim (cases_Bool (tie q p)) [
        | inl tied ↦ absurd (false≢true (sym apart ∙ tie_from p q (tie_right q p tied) (tie_left q p tied)))
        | inr apart_too ↦
            let at_q : filter (tie q) ps ≡ q ∷ filter (tie q) qs = rw (tie_itself q, apart_too) at (alike q) in
            let q_later : before q p ≡ false = first_is (λ r. before r p ≡ false) (tie q) ps (filter (tie q) qs) q rises_p.0 at_q in
            absurd (false≢true (sym apart ∙ tie_from p q p_later q_later))
      ]
]

same_tail : (test : Pair → Bool) (p : Pair) (ps qs : List Pair) → filter test (p ∷ ps) ≡ filter test (p ∷ qs) → filter test ps ≡ filter test qs
same_tail test p ps qs same = elim (cases_Bool (test p)) [
  | inl passes ↦ let both : p ∷ filter test ps ≡ p ∷ filter test qs = rw passes at same in cc
  | inr fails ↦ rw fails at same
]

one_order : (ps qs : List Pair) → Rises ps → Rises qs → ((r : Pair) → filter (tie r) ps ≡ filter (tie r) qs) → ps ≡ qs
one_order [] [] rises_p rises_q alike = refl
one_order [] (q ∷ qs) rises_p rises_q alike = let some : [] ≡ q ∷ filter (tie q) qs = rw (tie_itself q) at (alike q) in absurd cc
one_order (p ∷ ps) [] rises_p rises_q alike = let some : p ∷ filter (tie p) ps ≡ [] = rw (tie_itself p) at (alike p) in absurd cc
one_order (p ∷ ps) (q ∷ qs) rises_p rises_q alike =
    let first = same_first p q ps qs rises_p rises_q alike in
    let alike' : (r : Pair) → filter (tie r) (p ∷ ps) ≡ filter (tie r) (p ∷ qs) = λ r. alike r ∙ ap (λ x. filter (tie r) (x ∷ qs)) (sym first) in
    let rest = one_order ps qs rises_p.1 rises_q.1 (λ r. same_tail (tie r) p ps qs (alike' r)) in
    rw (first, rest) refl

-- ---- what placing gives is in order, and leaves ties as they stood

All-placed : (P : Pair → Type 0) (ps : List Pair) (p : Pair) → P p → All P ps → All P (placed ps p)
All-placed P [] p here all = All-cons P p [] here all
All-placed P (q ∷ ps) p here all = elim (cases_Bool (int_lt p.0 q.0)) [
  | inl less ↦ rw less (All-cons P p (q ∷ ps) here all)
  | inr not_less ↦ rw not_less (All-cons P q (placed ps p) (All-head P q ps all) (All-placed P ps p here (All-tail P q ps all)))
]

placed_rises : (ps : List Pair) (p : Pair) → Rises ps → Rises (placed ps p)
placed_rises [] p rises = (All-nil (λ q. before q p ≡ false), tt)
placed_rises (q ∷ ps) p rises = elim (cases_Bool (int_lt p.0 q.0)) [
  | inl less ↦
      let behind : before q p ≡ false = one_way p q (before_is p q ∙ less) in
      rw less (
        All-cons (λ r. before r p ≡ false) q ps behind (λ k d below. chain (get_or ps k d) q p (rises.0 k d below) behind),
        rises,
      )
  | inr not_less ↦
      let behind : before p q ≡ false = before_is p q ∙ not_less in
      rw not_less (All-placed (λ r. before r q ≡ false) ps p behind rises.0, placed_rises ps p rises.1)
]

-- where one pair ties, none that it comes before does
no_ties : (p r : Pair) (ps : List Pair) → tie r p ≡ true → All (λ q. before p q ≡ true) ps → filter (tie r) ps ≡ []
no_ties p r [] tied all = refl
no_ties p r (q ∷ ps) tied all = elim (cases_Bool (tie r q)) [
  | inl ties_too ↦
      let not_before : before p q ≡ false = chain p r q (tie_right r p tied) (tie_left r q ties_too) in
      absurd (false≢true (sym not_before ∙ All-head (λ q. before p q ≡ true) q ps all))
  | inr apart ↦ rw apart (no_ties p r ps tied (All-tail (λ q. before p q ≡ true) q ps all))
]

-- a pair that comes before the first one comes before all
before_all : (p q : Pair) (ps : List Pair) → before p q ≡ true → All (λ r. before r q ≡ false) ps → All (λ r. before p r ≡ true) ps
before_all p q ps less rises k d below = elim (cases_Bool (before p (get_or ps k d))) [
  | inl yes' ↦ yes'
  | inr no' ↦ absurd (false≢true (sym (chain p (get_or ps k d) q no' (rises k d below)) ∙ less))
]

placed_ties : (r : Pair) (ps : List Pair) (p : Pair) → Rises ps → filter (tie r) (placed ps p) ≡ filter (tie r) (ps ++ p ∷ [])
placed_ties r [] p rises = refl
placed_ties r (q ∷ ps) p rises = elim (cases_Bool (int_lt p.0 q.0)) [
  | inl less ↦
      let first : before p q ≡ true = before_is p q ∙ less in
      let behind = All-cons (λ s. before p s ≡ true) q ps first (before_all p q ps first rises.0) in
      rw (less, filter-append (tie r) (q ∷ ps) (p ∷ [])) (elim (cases_Bool (tie r p)) [
        | inl tied ↦ rw (tied, no_ties p r (q ∷ ps) tied behind) refl
        | inr apart ↦ rw apart (sym (append-nil (filter (tie r) (q ∷ ps))))
      ])
  | inr not_less ↦ rw not_less (elim (cases_Bool (tie r q)) [
    | inl tied ↦ rw tied (ap (λ qs. q ∷ qs) (placed_ties r ps p rises.1))
    | inr apart ↦ rw apart (placed_ties r ps p rises.1)
  ])
]

all_rise : (ps xs : List Pair) → Rises ps → Rises (fold placed ps xs)
all_rise ps [] rises = rises
all_rise ps (x ∷ xs) rises = all_rise (placed ps x) xs (placed_rises ps x rises)

all_ties : (r : Pair) (ps xs : List Pair) → Rises ps → filter (tie r) (fold placed ps xs) ≡ filter (tie r) (ps ++ xs)
all_ties r ps [] rises = ap (filter (tie r)) (sym (append-nil ps))
all_ties r ps (x ∷ xs) rises =
    all_ties r (placed ps x) xs (placed_rises ps x rises)
    ∙ (filter-append (tie r) (placed ps x) xs
    ∙ (ap (λ qs. qs ++ filter (tie r) xs) (placed_ties r ps x rises)
    ∙ (sym (filter-append (tie r) (ps ++ x ∷ []) xs) ∙ ap (filter (tie r)) (append_assoc ps (x ∷ []) xs))))

-- ---- the sort

rises_from : (ps : List Pair) → ((i j : ℕ) (d : Pair) → i ≤ j → j < length ps → before (get_or ps j d) (get_or ps i d) ≡ false) → Rises ps
rises_from [] far = tt
rises_from (p ∷ ps) far = (
  λ k d below. far 0 (suc k) d (omega arith) (omega arith),
  rises_from ps (λ i j d le below. far (suc i) (suc j) d (omega arith) (omega arith)),
)

-- the list that a stable sort by fractions leaves
pub sorted_is : (xs ys : List (ℤ × ℕ)) → IsSortedByKey (λ (p : ℤ × ℕ). p.0) int_cmp ys → IsStableByKey (λ (p : ℤ × ℕ). p.0) int_cmp xs ys → ys ≡ in_order xs
sorted_is xs ys sorted stable =
    one_order ys (in_order xs) (rises_from ys (sorted_far before order ys sorted)) (all_rise [] xs tt) (λ r. stable r ∙ sym (all_ties r [] xs tt))

-- ---- a fact of all pairs

All-fold : (P : ℤ × ℕ → Type 0) (ps xs : List (ℤ × ℕ)) → All P ps → All P xs → All P (fold placed ps xs)
All-fold P ps [] all more = all
All-fold P ps (x ∷ xs) all more = All-fold P (placed ps x) xs (All-placed P ps x (All-head P x xs more) all) (All-tail P x xs more)

pub All-in_order : (P : ℤ × ℕ → Type 0) (xs : List (ℤ × ℕ)) → All P xs → All P (reached (in_order xs))
All-in_order P xs all = All-filter (λ pair. int_le pair.0 (pos 65536)) P (in_order xs) (All-fold P [] xs (All-nil P) all)
