-- Each step of the board keeps its rule.
use Rattle.std.proofs.Common.{◌≡◌, ℕ, ◌+◌, ◌*◌, ◌%◌, ◌^◌, ◌<◌, ◌≤◌, ◌⊎◌, ◌==◌, nat_lt, min, List, [], ◌∷◌, ◌++◌, Option, None, Some, length, get_or, set, flat_map, sum_by, Contains, sym, refl, ap, ◌∙◌, subst, arith, inl, inr, ⊎_elim, length-set, get_or-set_same, get_or-set_other}
use Rattle.std.specs.Option.{ForSome}
use Rattle.std.proofs.lemmas.List.Sums.{sum_by_push}
use Rattle.std.proofs.lemmas.List.Elements.{All-set, All-push, All-weaker, Contains-push, Contains-push_cases, Contains-append_left, Contains-append_cases}
use Rattle.std.proofs.lemmas.Bool.{cases_eq, cases_lt, eq-eqb, ne_eqb, lt-ltb, le-ltb, le-leb, lt-leb}
use Rattle.std.proofs.lemmas.Option.{same_Some}
use mathlib.Core.Option.{some}
use lib.ListN.{get_elem?}
use Rattle.atomic_table.specs.Table.{State, step, keeps, Allows}
use Rattle.claim_board.specs.declared.view.View.{View}
use Rattle.claim_board.specs.declared.view.Key.{Key}
use Rattle.search_core.specs.Numbers.{block_count}
use Rattle.claim_board.specs.Views.{claimed, looked, posted, spent, StartedBelowCount, HasTriedOpenBlock}
use Rattle.claim_board.specs.Rule.{times, past_count, claims_left, IsFit, IsSpentOrFit, IsKept}
use Rattle.claim_board.specs.Steps.{Sat, Claims, Finds, Looks, Posts}
use Rattle.claim_board.proofs.Sums.{one_if, All-at, sum-set, sums_le, sums_same, sum-flat, times-Contains, HasEachOnce, weighed}
use Rattle.claim_board.proofs.Blocks.{past, blocks_cover, blocks-le}

abbrev pub St : Type 0
St = State (Unit {0}) View

abbrev pub next_of : St → ℕ
next_of s = get_or s.words 0 0

abbrev pub least_of : St → ℕ
least_of s = get_or s.words 1 0

-- a seat that has a part is not spent
pub fit_at : (key : Key) (s : St) (o : IsKept key s) (id : ℕ) (v : View) → get_elem? s.views id ≡ some v → 0 < v.parts → IsFit key o.meets (least_of s) v
fit_at key s o id v at live = ⊎_elim (λ (e : v ≡ spent). absurd (omega (arith, ap (λ (u : View). u.parts) e))) (λ (f : IsFit key o.meets (least_of s) v). f) (All-at (IsSpentOrFit key o.meets (least_of s)) s.views id v o.fits at)

-- a view stays fit where the least word falls
lowered : (key : Key) (meets : List ℕ) (least to : ℕ) → to ≤ least → (v : View) → IsSpentOrFit key meets least v → IsSpentOrFit key meets to v
lowered key meets least to falls v kind = ⊎_elim (λ (e : v ≡ spent). inl e) (λ (f : IsFit key meets least v). inr record {
  count = f.count;
  block = f.block;
  meets_same = f.meets_same;
  some_part = f.some_part;
  not_lost = omega (arith, f.not_lost);
  within = f.within;
  last_is_mine = f.last_is_mine;
  tried = f.tried;
  few = f.few;
}) kind

-- a step of one seat, which goes from v to w while the words become ws
moved : (key : Key) (s : St) (o : IsKept key s) (id : ℕ) (v w : View) (ws : List ℕ) → get_elem? s.views id ≡ some v → length ws ≡ 2
    → ((n : ℕ) → one_if (nat_lt n (next_of s)) + times n w.mine ≡ one_if (nat_lt n (get_or ws 0 0)) + times n v.mine)
    → (get_or ws 1 0 ≡ key.count) ⊎ Contains o.meets (get_or ws 1 0)
    → w.parts + w.spare ≡ v.parts + v.spare
    → get_or ws 1 0 ≤ least_of s
    → IsFit key o.meets (get_or ws 1 0) w
    → IsKept key record { words = ws; homes = s.homes; views = set s.views id w }
moved key s o id v w ws at two once found whole falls fit = record {
  meets = o.meets;
  rising = o.rising;
  below = o.below;
  small_count = o.small_count;
  some_block = o.some_block;
  two_words = two;
  once = λ n. omega (arith, sum-set (λ (u : View). times n u.mine) s.views id v w at, o.once n, once n);
  found = found;
  whole = omega (arith, sum-set (λ (u : View). u.parts + u.spare) s.views id v w at, o.whole);
  fits = All-set (IsSpentOrFit key o.meets (get_or ws 1 0)) s.views id w (inr fit) (All-weaker (IsSpentOrFit key o.meets (least_of s)) (IsSpentOrFit key o.meets (get_or ws 1 0)) (lowered key o.meets (least_of s) (get_or ws 1 0) falls) s.views o.fits);
}

-- all views' blocks, in one list
abbrev pub blocks : St → List ℕ
blocks s = flat_map (λ (v : View). v.mine) s.views

pub all_once : (key : Key) (s : St) (o : IsKept key s) → HasEachOnce (blocks s) (next_of s)
all_once key s o n = sym (sum-flat (λ x. one_if (x == n)) (λ (v : View). v.mine) s.views) ∙ o.once n

-- no more blocks are claimed than there are, and one past the count for each of the 64 seats
pub next_le : (key : Key) (s : St) (o : IsKept key s) → next_of s ≤ block_count key.count key.block + 64
next_le key s o =
    let h : ℕ → ℕ = past key.count key.block in
    let same : sum_by past_count s.views ≡ sum_by (λ (v : View). sum_by h v.mine) s.views = sums_same past_count (λ (v : View). sum_by h v.mine) s.views
    (All-weaker (IsSpentOrFit key o.meets (least_of s)) (λ v. past_count v ≡ sum_by h v.mine)
    (λ v kind. ⊎_elim (λ (e : v ≡ spent). subst (λ (u : View). past_count u ≡ sum_by h u.mine) (sym e) refl)
    (λ (f : IsFit key o.meets (least_of s) v). ap (λ (z : ℕ × ℕ). sum_by (past z.0 z.1) v.mine) (λ i. (f.count i, f.block i))) kind) s.views o.fits) in
    let few : sum_by past_count s.views ≤ sum_by (λ (v : View). v.parts + v.spare) s.views = sums_le past_count (λ (v : View). v.parts + v.spare) s.views
    (All-weaker (IsSpentOrFit key o.meets (least_of s)) (λ v. past_count v ≤ v.parts + v.spare)
    (λ v kind. ⊎_elim (λ (e : v ≡ spent). subst (λ (u : View). past_count u ≤ u.parts + u.spare) (sym e) (omega arith))
    (λ (f : IsFit key o.meets (least_of s) v). omega (arith, f.few)) kind) s.views o.fits) in
    omega (arith, same, few, o.whole, sum-flat h (λ (v : View). v.mine) s.views, weighed h (blocks s) (next_of s) (all_once key s o), blocks_cover key.count key.block (next_of s) o.some_block)

-- a seat's blocks are below the next one
mine_below : (key : Key) (s : St) (o : IsKept key s) (id : ℕ) (v : View) → get_elem? s.views id ≡ some v → (n : ℕ) → Contains v.mine n → n < next_of s
mine_below key s o id v at n has = ⊎_elim (λ (l : n < next_of s). l)
    (λ (g : next_of s ≤ n). absurd (omega (arith, times-Contains v.mine n has, Rattle.claim_board.proofs.Sums.part-le-sum (λ (u : View). times n u.mine) s.views id v at, o.once n, ap one_if (le-ltb n (next_of s) g))))
    (cases_lt n (next_of s))

some_claim : (count block : ℕ) (last : Option ℕ) → ForSome last (λ n. n * block < count) → claims_left count block last ≡ 1
some_claim count block None h = refl
some_claim count block (Some n) h = ap one_if (lt-ltb (n * block) count (h n refl))

-- one of the two: a block starts past the count, or a claim is left
past_or_left : (count block n : ℕ) → past count block n + claims_left count block (Some n) ≡ 1
past_or_left count block n = ⊎_elim
    (λ (l : n * block < count). omega (arith, ap one_if (lt-leb count (n * block) l), ap one_if (lt-ltb (n * block) count l)))
    (λ (g : count ≤ n * block). omega (arith, ap one_if (le-leb count (n * block) g), ap one_if (le-ltb (n * block) count g)))
    (cases_lt (n * block) count)

claimed_fits : (key : Key) (meets : List ℕ) (least : ℕ) (v : View) (n : ℕ) → IsFit key meets least v → StartedBelowCount v → HasTriedOpenBlock v → IsFit key meets least (claimed v n)
claimed_fits key meets least v n f started tried = record {
  count = f.count;
  block = f.block;
  meets_same = f.meets_same;
  some_part = f.some_part;
  not_lost = f.not_lost;
  within = f.within;
  last_is_mine = λ x e. subst (Contains (v.mine ++ n ∷ [])) (same_Some n x e) (Contains-push v.mine n);
  tried = λ k b has low mine in_block. ⊎_elim
      (λ (old : Contains v.mine b). absurd (tried k (b, f.tried k b has low old in_block, in_block) low (subst (λ (ms : List ℕ). Contains ms k) (sym f.meets_same) has)))
      (λ (e : n ≡ b). ap (λ (x : ℕ). Some x) e)
      (Contains-push_cases v.mine n b mine);
  few = omega (arith, f.few, some_claim v.count v.block v.last started, past_or_left v.count v.block n, sum_by_push (past v.count v.block) v.mine n);
}

-- n is claimed where the next block is n, and then the next one is n + 1
claimed_once : (n next : ℕ) (mine : List ℕ) → one_if (nat_lt n next) + times n (mine ++ next ∷ []) ≡ one_if (nat_lt n (next + 1)) + times n mine
claimed_once n next mine =
    let push = sum_by_push (λ x. one_if (x == n)) mine next in
    ⊎_elim
    (λ (e : next ≡ n). omega (arith, push, ap one_if (eq-eqb next n e), ap one_if (le-ltb n next (omega arith)), ap one_if (lt-ltb n (next + 1) (omega arith))))
    (λ (ne : next ≡ n → ⊥). ⊎_elim
    (λ (l : n < next). omega (arith, push, ap one_if (ne_eqb next n ne), ap one_if (lt-ltb n next l), ap one_if (lt-ltb n (next + 1) (omega arith))))
    (λ (g : next ≤ n). omega (arith, push, ap one_if (ne_eqb next n ne), ap one_if (le-ltb n next g), ap one_if (le-ltb n (next + 1) (omega (arith, λ (e : next ≡ n). ne e)))))
    (cases_lt n next))
    (cases_eq next n)

pub claims : (key : Key) (slots id : ℕ) (m : Sat) → 0 < m.0.parts → StartedBelowCount m.0 → HasTriedOpenBlock m.0
    → Allows (IsKept key) slots id m 0 (λ n. (n + 1) % 2 ^ 64) (Claims (step slots 0 1 0 mathlib.Core.Option.none) m)
claims key slots id m live started tried s o _ at _ =
    let v : View = m.0 in
    let n : ℕ = next_of s in
    let f = fit_at key s o id v at live in
    let room : n ≤ block_count key.count key.block + 64 = next_le key s o in
    let fits_word : (n + 1) % 2 ^ 64 ≡ n + 1 = omega (arith, blocks-le key.count key.block o.some_block, o.small_count) in
    let ws : List ℕ = set s.words 0 ((n + 1) % 2 ^ 64) in
    let next : get_or ws 0 0 ≡ n + 1 = get_or-set_same s.words 0 ((n + 1) % 2 ^ 64) 0 (omega (arith, o.two_words)) ∙ fits_word in
    let least : get_or ws 1 0 ≡ least_of s = get_or-set_other s.words 0 1 ((n + 1) % 2 ^ 64) 0 (λ e. omega arith) in (
      claimed v n,
      keeps,
      tt,
      moved key s o id v (claimed v n) ws at (length-set s.words 0 ((n + 1) % 2 ^ 64) ∙ o.two_words)
          (λ x. claimed_once x n v.mine ∙ ap (λ (y : ℕ). one_if (nat_lt x y) + times x v.mine) (sym next))
          (subst (λ (y : ℕ). (y ≡ key.count) ⊎ Contains o.meets y) (sym least) o.found) refl (omega (arith, least))
          (subst (λ (y : ℕ). IsFit key o.meets y (claimed v n)) (sym least) (claimed_fits key o.meets (least_of s) v n f started tried)),
      record {
        after = refl;
        above = λ k d l. mine_below key s o id v at (get_or v.mine k d) (Rattle.std.proofs.lemmas.List.Elements.Contains-get_or v.mine k d l);
        above_last = λ b e. mine_below key s o id v at b (f.last_is_mine b e);
        few = subst (λ (z : ℕ × ℕ). n ≤ block_count z.0 z.1 + 64) (λ i. (sym f.count i, sym f.block i)) room;
      },
    )

-- what the least word may be found to be
finds : (key : Key) (s : St) (o : IsKept key s) (m : Sat) → IsFit key o.meets (least_of s) m.0 → Finds m (least_of s)
finds key s o m f = record {
  true_number = ⊎_elim (λ (e : least_of s ≡ key.count). inl (e ∙ sym f.count)) (λ (has : Contains o.meets (least_of s)). inr (subst (λ (ms : List ℕ). Contains ms (least_of s)) (sym f.meets_same) has)) o.found;
  falls = f.not_lost;
  within = omega (arith, f.not_lost, f.within, f.count);
}

-- a seat that now knows a lower number is fit
seen_fits : (key : Key) (meets : List ℕ) (least to seen : ℕ) (v : View) → IsFit key meets least v → to ≤ seen → seen ≤ v.seen → IsFit key meets to (looked v seen)
seen_fits key meets least to seen v f not_lost falls = record {
  count = f.count;
  block = f.block;
  meets_same = f.meets_same;
  some_part = f.some_part;
  not_lost = not_lost;
  within = omega (arith, f.within);
  last_is_mine = f.last_is_mine;
  tried = λ k n has low. f.tried k n has (omega arith);
  few = f.few;
}

pub looks : (key : Key) (slots id : ℕ) (m : Sat) → 0 < m.0.parts → Allows (IsKept key) slots id m 1 (λ n. n) (Looks (step slots 1 0 0 mathlib.Core.Option.none) m)
looks key slots id m live s o _ at _ =
    let v : View = m.0 in
    let least : ℕ = least_of s in
    let f = fit_at key s o id v at live in
    let same : set s.words 1 least ≡ s.words = lib.Seq.set-get_or s.words 1 0 in (
      looked v least,
      keeps,
      tt,
      subst (λ (ws : List ℕ). IsKept key record { words = ws; homes = s.homes; views = set s.views id (looked v least) }) (sym same)
          (moved key s o id v (looked v least) s.words at o.two_words (λ x. refl) o.found refl (omega arith) (seen_fits key o.meets least least least v f (omega arith) f.not_lost)),
      record { after = refl; finds = finds key s o m f },
    )

pub posts : (key : Key) (slots id : ℕ) (m : Sat) (k : ℕ) → 0 < m.0.parts → Contains m.0.meets k → Allows (IsKept key) slots id m 1 (λ n. min n k) (Posts (step slots 1 k 0 mathlib.Core.Option.none) m)
posts key slots id m k live has s o _ at _ =
    let v : View = m.0 in
    let old : ℕ = least_of s in
    let f = fit_at key s o id v at live in
    let to : ℕ = min old k in
    let ws : List ℕ = set s.words 1 to in
    let next : get_or ws 0 0 ≡ next_of s = get_or-set_other s.words 1 0 to 0 (λ e. omega arith) in
    let least : get_or ws 1 0 ≡ to = get_or-set_same s.words 1 to 0 (omega (arith, o.two_words)) in
    let meets_k : Contains o.meets k = subst (λ (ms : List ℕ). Contains ms k) f.meets_same has in
    let found : (to ≡ key.count) ⊎ Contains o.meets to = ⊎_elim
    (λ (l : old < k). let e : old ≡ to = omega arith in subst (λ (y : ℕ). (y ≡ key.count) ⊎ Contains o.meets y) e o.found)
    (λ (g : k ≤ old). let e : k ≡ to = omega arith in inr (subst (λ (y : ℕ). Contains o.meets y) e meets_k)) (cases_lt old k) in (
      posted v old k,
      keeps,
      tt,
      moved key s o id v (posted v old k) ws at (length-set s.words 1 to ∙ o.two_words)
          (λ x. ap (λ (y : ℕ). one_if (nat_lt x y) + times x v.mine) (sym next))
          (subst (λ (y : ℕ). (y ≡ key.count) ⊎ Contains o.meets y) (sym least) found) refl (omega (arith, least))
          (subst (λ (y : ℕ). IsFit key o.meets y (posted v old k)) (sym least) (seen_fits key o.meets old to to v f (omega arith) (omega (arith, f.not_lost)))),
      record { after = refl; finds = finds key s o m f },
    )
