-- Sums over lists, of which one place changes, and over the numbers below a bound.
use Rattle.std.proofs.Common.{◌≡◌, ℕ, zero, suc, ◌+◌, ◌*◌, ◌<◌, ◌≤◌, ◌==◌, nat_lt, Bool, List, [], ◌∷◌, cond, length, get_or, set, flat_map, sum_by, All, Contains, sym, refl, ap, ◌∙◌, subst, arith, ⊎_elim}
use Rattle.std.proofs.lemmas.List.Sums.{sum_by-cons, sum_by-append, sum_by-set, get_or-le-sum_by}
use Rattle.std.proofs.lemmas.List.Elements.{All-head, All-tail, All-set, All-contains}
use Rattle.std.proofs.lemmas.Bool.{cases_eq, eq-eqb, ne_eqb, lt-ltb, le-ltb, cases_lt}
use mathlib.Core.Option.{some, some-injective, some-ne-none}
use lib.ListN.{get_elem?}
use Rattle.search_core.specs.Numbers.{sum_below}
use Rattle.claim_board.specs.Rule.{times}

-- 1 where the test holds
abbrev pub one_if : Bool → ℕ
one_if b = cond b 1 0

module _ {A : Type 0} where
  -- what stands at a place
  pub at_place : (l : List A) (i : ℕ) (a d : A) → get_elem? l i ≡ some a → (i < length l) × (get_or l i d ≡ a)
  at_place [] i a d e = absurd (some-ne-none a (sym e))
  at_place (x ∷ xs) zero a d e = (omega arith, some-injective x a e)
  at_place (x ∷ xs) (suc i) a d e = let t = at_place xs i a d e in (omega (arith, t.0), t.1)

  pub All-at : (P : A → Type 0) (l : List A) (i : ℕ) (a : A) → All P l → get_elem? l i ≡ some a → P a
  All-at P l i a all e = let t = at_place l i a a e in subst P t.1 (all i a t.0)

  -- a sum after a change of one place
  pub sum-set : (f : A → ℕ) (l : List A) (i : ℕ) (v w : A) → get_elem? l i ≡ some v → sum_by f (set l i w) + f v ≡ sum_by f l + f w
  sum-set f l i v w e = let t = at_place l i v v e in subst (λ (x : A). sum_by f (set l i w) + f x ≡ sum_by f l + f w) t.1 (sum_by-set f l i w v t.0)

  pub part-le-sum : (f : A → ℕ) (l : List A) (i : ℕ) (v : A) → get_elem? l i ≡ some v → f v ≤ sum_by f l
  part-le-sum f l i v e = let t = at_place l i v v e in subst (λ (x : A). f x ≤ sum_by f l) t.1 (get_or-le-sum_by f l i v t.0)

  pub sums_le : (f g : A → ℕ) (l : List A) → All (λ x. f x ≤ g x) l → sum_by f l ≤ sum_by g l
  sums_le f g [] h = omega arith
  sums_le f g (x ∷ xs) h = omega (arith, sum_by-cons f x xs, sum_by-cons g x xs, All-head (λ x. f x ≤ g x) x xs h, sums_le f g xs (All-tail (λ x. f x ≤ g x) x xs h))

  pub sums_same : (f g : A → ℕ) (l : List A) → All (λ x. f x ≡ g x) l → sum_by f l ≡ sum_by g l
  sums_same f g [] h = refl
  sums_same f g (x ∷ xs) h = omega (arith, sum_by-cons f x xs, sum_by-cons g x xs, All-head (λ x. f x ≡ g x) x xs h, sums_same f g xs (All-tail (λ x. f x ≡ g x) x xs h))

  pub sum_none : (f : A → ℕ) (l : List A) → All (λ x. f x ≡ 0) l → sum_by f l ≡ 0
  sum_none f [] h = refl
  sum_none f (x ∷ xs) h = omega (arith, sum_by-cons f x xs, All-head (λ x. f x ≡ 0) x xs h, sum_none f xs (All-tail (λ x. f x ≡ 0) x xs h))

  -- a sum of sums is the sum over the lists joined
  pub sum-flat : (h : ℕ → ℕ) (of : A → List ℕ) (l : List A) → sum_by (λ v. sum_by h (of v)) l ≡ sum_by h (flat_map of l)
  sum-flat h of [] = refl
  sum-flat h of (x ∷ xs) = omega (arith, sum_by-cons (λ v. sum_by h (of v)) x xs, sum_by-append h (of x) (flat_map of xs), sum-flat h of xs)

-- sums over the numbers below a bound
pub below-add : (f g : ℕ → ℕ) (n : ℕ) → sum_below (λ k. f k + g k) n ≡ sum_below f n + sum_below g n
below-add f g zero = refl
below-add f g (suc n) = omega (arith, below-add f g n)

pub below-same : (f g : ℕ → ℕ) (n : ℕ) → ((k : ℕ) → k < n → f k ≡ g k) → sum_below f n ≡ sum_below g n
below-same f g zero h = refl
below-same f g (suc n) h = omega (arith, h n (omega arith), below-same f g n (λ k l. h k (omega arith)))

pub below-none : (f : ℕ → ℕ) (n : ℕ) → ((k : ℕ) → k < n → f k ≡ 0) → sum_below f n ≡ 0
below-none f zero h = refl
below-none f (suc n) h = omega (arith, h n (omega arith), below-none f n (λ k l. h k (omega arith)))

-- one number's weight, as a sum over all numbers
abbrev only : (ℕ → ℕ) → ℕ → ℕ → ℕ
only h x k = cond (x == k) (h k) 0

only-here : (h : ℕ → ℕ) (x k : ℕ) → x ≡ k → only h x k ≡ h k
only-here h x k e = ap (λ b. cond b (h k) 0) (eq-eqb x k e)

only-else : (h : ℕ → ℕ) (x k : ℕ) → (x ≡ k → ⊥) → only h x k ≡ 0
only-else h x k n = ap (λ b. cond b (h k) 0) (ne_eqb x k n)

below-only : (h : ℕ → ℕ) (x n : ℕ) → x < n → sum_below (only h x) n ≡ h x
below-only h x zero l = absurd (omega arith)
below-only h x (suc n) l = ⊎_elim
    (λ (e : x ≡ n). omega (arith, below-none (only h x) n (λ k m. only-else h x k (λ same. omega arith)), only-here h x n e, ap h e))
    (λ (ne : x ≡ n → ⊥). let m : x < n = omega (arith, λ (e : x ≡ n). ne e) in omega (arith, below-only h x n m, only-else h x n ne))
    (cases_eq x n)

times-cons : (n x : ℕ) (xs : List ℕ) → times n (x ∷ xs) ≡ cond (x == n) 1 0 + times n xs
times-cons n x xs = sum_by-cons (λ y. cond (y == n) 1 0) x xs

-- the weight of a list of numbers below n, number by number
spread : (h : ℕ → ℕ) (n : ℕ) (xs : List ℕ) → All (λ x. x < n) xs → sum_by h xs ≡ sum_below (λ k. times k xs * h k) n
spread h n [] all = sym (below-none (λ k. times k [] * h k) n (λ k l. omega arith))
spread h n (x ∷ xs) all =
    let first : x < n = All-head (λ x. x < n) x xs all in
    let rest = spread h n xs (All-tail (λ x. x < n) x xs all) in
    let each : (k : ℕ) → k < n → times k (x ∷ xs) * h k ≡ only h x k + times k xs * h k = λ k l. ⊎_elim
    (λ (e : x ≡ k). let t : times k (x ∷ xs) ≡ 1 + times k xs = times-cons k x xs ∙ ap (λ b. cond b 1 0 + times k xs) (eq-eqb x k e) in omega (arith, ap (λ (m : ℕ). m * h k) t, only-here h x k e))
    (λ (ne : x ≡ k → ⊥). let t : times k (x ∷ xs) ≡ 0 + times k xs = times-cons k x xs ∙ ap (λ b. cond b 1 0 + times k xs) (ne_eqb x k ne) in omega (arith, ap (λ (m : ℕ). m * h k) t, only-else h x k ne))
    (cases_eq x k) in
    omega (arith, sum_by-cons h x xs, rest, below-only h x n first, below-add (only h x) (λ k. times k xs * h k) n, below-same (λ k. times k (x ∷ xs) * h k) (λ k. only h x k + times k xs * h k) n each)

pub times-Contains : (xs : List ℕ) (x : ℕ) → Contains xs x → 0 < times x xs
times-Contains [] x has = absurd (omega (arith, has.1))
times-Contains (y ∷ ys) x (zero, l, e) = let t = times-cons x y ys in omega (arith, t, ap one_if (eq-eqb y x e))
times-Contains (y ∷ ys) x (suc k, l, e) = omega (arith, times-cons x y ys, times-Contains ys x (k, omega arith, e))

pub Contains-times : (xs : List ℕ) (x : ℕ) → 0 < times x xs → Contains xs x
Contains-times [] x some_here = absurd (omega arith)
Contains-times (y ∷ ys) x some_here = ⊎_elim
    (λ (e : y ≡ x). (0, omega arith, e))
    (λ (ne : y ≡ x → ⊥). let t : times x (y ∷ ys) ≡ 0 + times x ys = times-cons x y ys ∙ ap (λ b. cond b 1 0 + times x ys) (ne_eqb y x ne) in let there = Contains-times ys x (omega (arith, t)) in (suc there.0, omega (arith, there.1), there.2))
    (cases_eq y x)

-- each number below n stands in the list once, and no other does
abbrev pub HasEachOnce : List ℕ → ℕ → Type 0
HasEachOnce xs n = (k : ℕ) → times k xs ≡ cond (nat_lt k n) 1 0

pub each_below : (xs : List ℕ) (n : ℕ) → HasEachOnce xs n → (k : ℕ) → 0 < times k xs → k < n
each_below xs n each k some_here = ⊎_elim (λ (l : k < n). l) (λ (g : n ≤ k). absurd (omega (arith, each k, ap one_if (le-ltb k n g)))) (cases_lt k n)

pub all_below : (xs : List ℕ) (n : ℕ) → HasEachOnce xs n → All (λ x. x < n) xs
all_below xs n each k d l = each_below xs n each (get_or xs k d) (times-Contains xs (get_or xs k d) (Rattle.std.proofs.lemmas.List.Elements.Contains-get_or xs k d l))

-- so whatever is counted of its numbers adds up to what it is over the numbers below n
pub weighed : (h : ℕ → ℕ) (xs : List ℕ) (n : ℕ) → HasEachOnce xs n → sum_by h xs ≡ sum_below h n
weighed h xs n each = spread h n xs (all_below xs n each) ∙ below-same (λ k. times k xs * h k) h n (λ k l. let once : times k xs ≡ 1 = each k ∙ ap one_if (lt-ltb k n l) in omega (arith, ap (λ (m : ℕ). m * h k) once))
