-- A board is made, its seats are split and joined, and it is closed, under its rule.
use Rattle.std.proofs.Common.{◌≡◌, ℕ, zero, suc, ◌+◌, ◌*◌, ◌/◌, ◌%◌, ◌^◌, ◌<◌, ◌≤◌, ◌⊎◌, ◌==◌, List, [], ◌∷◌, Some, length, get_or, set, sum_by, All, Contains, sym, refl, ap, ◌∙◌, subst, arith, inl, inr, ⊎_elim, set-set, div-add-mod', mul-le-mul_right}
use Rattle.std.specs.Option.{ForSome}
use Rattle.std.specs.List.Sorted.{IsStrictlyIncreasing}
use Rattle.std.proofs.lemmas.List.{get_or_default}
use Rattle.std.proofs.lemmas.List.Sums.{sum_by_push, sum_by-append, get_or-le-sum_by}
use Rattle.std.proofs.lemmas.List.Elements.{All-set, All-push, All-nil, All-weaker, All-contains, Contains-append_left, Contains-append_cases}
use Rattle.std.proofs.lemmas.Bool.{cases_lt, lt-ltb, le-ltb}
use Rattle.std.proofs.lemmas.Nat.{mod_below}
use Rattle.std.proofs.lemmas.Option.{same_Some, none-some}
use mathlib.Core.Option.{some, none}
use lib.ListN.{get_elem?}
use Rattle.atomic_table.specs.Table.{step, keeps, opening, Allows, Splits, Joins, Final, Seen}
use Rattle.atomic_table.proofs.Lists.{set_else}
use Rattle.claim_board.specs.declared.view.View.{View}
use Rattle.claim_board.specs.declared.view.Key.{Key}
use Rattle.search_core.specs.Numbers.{first_of, sum_below}
use Rattle.claim_board.specs.Views.{split_off, after_split, joined, spent, told, IsInBlock, HasEnded, IsOver}
use Rattle.claim_board.specs.Views as views
use Rattle.claim_board.specs.Rule.{times, IsFit, IsSpentOrFit, IsKept}
use Rattle.claim_board.specs.Steps.{Sat, tells}
use Rattle.claim_board.proofs.Sums.{one_if, at_place, sum-set, sum_none, Contains-times, HasEachOnce, weighed, each_below, times-Contains}
use Rattle.claim_board.proofs.Blocks.{past}
use Rattle.claim_board.proofs.Keeps.{St, next_of, least_of, fit_at}

-- a new board knows of no number that meets
pub opens : (key : Key) → key.count ≤ 2 ^ 40 → 0 < key.block → IsKept key (opening (0 ∷ key.count ∷ []) [] (views.opening key.count key.block []))
opens key small some_block = record {
  meets = [];
  rising = λ k l. absurd (omega (arith, l));
  below = All-nil (λ k. k < key.count);
  small_count = small;
  some_block = some_block;
  two_words = refl;
  once = λ n. sym (ap one_if (le-ltb n 0 (omega arith)));
  found = inl refl;
  whole = refl;
  fits = All-push (IsSpentOrFit key [] key.count) [] (views.opening key.count key.block []) (All-nil (IsSpentOrFit key [] key.count)) (inr record {
    count = refl;
    block = refl;
    meets_same = refl;
    some_part = omega arith;
    not_lost = omega arith;
    within = omega arith;
    last_is_mine = λ n e. absurd (none-some n e);
    tried = λ k n has low mine. absurd (omega (arith, mine.1));
    few = omega arith;
  });
}

-- the other views of a board are spent where one seat stands for all 64
alone : (key : Key) (s : St) (o : IsKept key s) (id : ℕ) (v : View) → get_elem? s.views id ≡ some v → v.parts + v.spare ≡ 64 → All (λ u. u ≡ spent) (set s.views id spent)
alone key s o id v at all k d l =
    let share : View → ℕ = λ u. u.parts + u.spare in
    let ws : List View = set s.views id spent in
    let u : View = get_or ws k d in
    let none_left : sum_by share ws + share v ≡ sum_by share s.views + 0 = sum-set share s.views id v spent at in
    let part : share u ≤ sum_by share ws = get_or-le-sum_by share ws k d l in
    ⊎_elim (λ (e : u ≡ spent). e) (λ (f : IsFit key o.meets (least_of s) u). absurd (omega (arith, f.some_part, o.whole)))
    (All-set (IsSpentOrFit key o.meets (least_of s)) s.views id spent (inl refl) o.fits k d l)

-- so what is counted of all views is counted of that seat's
alone-sum : (key : Key) (s : St) (o : IsKept key s) (id : ℕ) (v : View) → get_elem? s.views id ≡ some v → v.parts + v.spare ≡ 64 → (f : View → ℕ) → f spent ≡ 0 → sum_by f s.views ≡ f v
alone-sum key s o id v at all f nothing =
    let ws : List View = set s.views id spent in
    let rest : sum_by f ws ≡ 0 = sum_none f ws (All-weaker (λ u. u ≡ spent) (λ u. f u ≡ 0) (λ u e. ap f e ∙ nothing) ws (alone key s o id v at all)) in
    omega (arith, sum-set f s.views id v spent at, rest, nothing)

pub alone-once : (key : Key) (s : St) (o : IsKept key s) (id : ℕ) (v : View) → get_elem? s.views id ≡ some v → v.parts + v.spare ≡ 64 → HasEachOnce v.mine (next_of s)
alone-once key s o id v at all n = sym (alone-sum key s o id v at all (λ u. times n u.mine) refl) ∙ o.once n

-- while one seat stands for all 64 and has no blocks, it may be told which numbers meet
pub names : (key : Key) (slots id : ℕ) (m : Sat) (meets : List ℕ) → m.0 ≡ views.opening key.count key.block [] → IsStrictlyIncreasing meets → All (λ k. k < key.count) meets
    → Allows (IsKept key) slots id m 0 (λ n. n) (tells meets (step slots 0 0 0 none) m)
names key slots id m meets first rising below s o _ at _ =
    let v : View = m.0 in
    let w : View = told meets v in
    let all : v.parts + v.spare ≡ 64 = ap (λ (u : View). u.parts + u.spare) first in
    let live : 0 < v.parts = omega (arith, ap (λ (u : View). u.parts) first) in
    let f = fit_at key s o id v at live in
    let none_named : o.meets ≡ [] = sym f.meets_same ∙ ap (λ (u : View). u.meets) first in
    let least : least_of s ≡ key.count = ⊎_elim (λ (e : least_of s ≡ key.count). e)
    (λ (has : Contains o.meets (least_of s)). absurd (omega (arith, has.1, ap length none_named))) o.found in
    let no_blocks : v.mine ≡ [] = ap (λ (u : View). u.mine) first in
    let same : set s.words 0 (next_of s) ≡ s.words = lib.Seq.set-get_or s.words 0 0 in
    let P : View → Type 0 = IsSpentOrFit key meets (least_of s) in
    let fit : IsFit key meets (least_of s) w = record {
      count = f.count;
      block = f.block;
      meets_same = refl;
      some_part = f.some_part;
      not_lost = f.not_lost;
      within = f.within;
      last_is_mine = f.last_is_mine;
      tried = λ k n has low mine. absurd (omega (arith, mine.1, ap length no_blocks));
      few = f.few;
    } in
    let kept : IsKept key record { words = s.words; homes = s.homes; views = set s.views id w } = record {
      meets = meets;
      rising = rising;
      below = below;
      small_count = o.small_count;
      some_block = o.some_block;
      two_words = o.two_words;
      once = λ n. omega (arith, sum-set (λ (u : View). times n u.mine) s.views id v w at, o.once n);
      found = inl least;
      whole = omega (arith, sum-set (λ (u : View). u.parts + u.spare) s.views id v w at, o.whole);
      fits = subst (All P) (set-set s.views id spent w) (All-set P (set s.views id spent) id w (inr fit) (All-weaker (λ u. u ≡ spent) P (λ u e. inl e) (set s.views id spent) (alone key s o id v at all)));
    } in (
      w,
      keeps,
      tt,
      subst (λ (ws : List ℕ). IsKept key record { words = ws; homes = s.homes; views = set s.views id w }) (sym same) kept,
      refl,
    )

-- a seat splits off another
pub splits : (key : Key) (id : ℕ) (v : View) → 0 < v.parts → 1 ≤ v.spare → Splits (IsKept key) id v (after_split v) (split_off v)
splits key id v live has_spare s o at =
    let left : View = after_split v in
    let right : View = split_off v in
    let f = fit_at key s o id v at live in
    let P : View → Type 0 = IsSpentOrFit key o.meets (least_of s) in
    let vs : List View = set s.views id left in record {
      meets = o.meets;
      rising = o.rising;
      below = o.below;
      small_count = o.small_count;
      some_block = o.some_block;
      two_words = o.two_words;
      once = λ n. omega (arith, sum_by_push (λ (u : View). times n u.mine) vs right, sum-set (λ (u : View). times n u.mine) s.views id v left at, o.once n);
      found = o.found;
      whole = omega (arith, sum_by_push (λ (u : View). u.parts + u.spare) vs right, sum-set (λ (u : View). u.parts + u.spare) s.views id v left at, o.whole);
      fits = All-push P vs right (All-set P s.views id left (inr record {
        count = f.count;
        block = f.block;
        meets_same = f.meets_same;
        some_part = f.some_part;
        not_lost = f.not_lost;
        within = f.within;
        last_is_mine = f.last_is_mine;
        tried = f.tried;
        few = f.few;
      }) o.fits) (inr record {
        count = f.count;
        block = f.block;
        meets_same = f.meets_same;
        some_part = omega arith;
        not_lost = f.not_lost;
        within = f.within;
        last_is_mine = λ n e. absurd (none-some n e);
        tried = λ k n has low mine. absurd (omega (arith, mine.1));
        few = omega arith;
      });
    }

-- a block of a seat that has ended: none of its numbers below the least that it has seen meets
ended_tried : (key : Key) (meets : List ℕ) (least : ℕ) (w : View) → IsFit key meets least w → HasEnded w → (k n : ℕ) → Contains meets k → k < w.seen → Contains w.mine n → n * w.block ≤ k → k < (n + 1) * w.block → k < w.count → ⊥
ended_tried key meets least w f ended k n has low mine from upto within = omega (arith, ended n (f.tried k n has low mine (from, upto, within)))

joined_fits : (key : Key) (meets : List ℕ) (least : ℕ) (v w : View) → IsFit key meets least v → IsFit key meets least w → HasEnded w → IsFit key meets least (joined v w)
joined_fits key meets least v w f g ended =
    let same_block : v.block ≡ w.block = f.block ∙ sym g.block in
    let same_count : v.count ≡ w.count = f.count ∙ sym g.count in record {
      count = f.count;
      block = f.block;
      meets_same = f.meets_same;
      some_part = omega (arith, f.some_part);
      not_lost = omega (arith, f.not_lost, g.not_lost);
      within = omega (arith, f.within);
      last_is_mine = λ n e. Contains-append_left v.mine w.mine n (f.last_is_mine n e);
      tried = λ k n has low mine in_block. ⊎_elim
          (λ (own : Contains v.mine n). f.tried k n has (omega (arith, low)) own in_block)
          (λ (taken : Contains w.mine n). absurd (ended_tried key meets least w g ended k n has (omega (arith, low)) taken
          (subst (λ (b : ℕ). n * b ≤ k) same_block in_block.0) (subst (λ (b : ℕ). k < (n + 1) * b) same_block in_block.1) (omega (arith, in_block.2, same_count))))
          (Contains-append_cases v.mine w.mine n mine);
      few = omega (arith, f.few, g.few, sum_by-append (past v.count v.block) v.mine w.mine, ap (λ (z : ℕ × ℕ). sum_by (past z.0 z.1) w.mine) (λ i. (same_count i, same_block i)));
    }

pub joins : (key : Key) (id : ℕ) (v : View) (other : ℕ) (w : View) → 0 < v.parts → 0 < w.parts → HasEnded w → Joins (IsKept key) id v other w (joined v w) spent
joins key id v other w live live' ended s o at apart at' =
    let P : View → Type 0 = IsSpentOrFit key o.meets (least_of s) in
    let both : View = joined v w in
    let vs : List View = set s.views id both in
    let there : get_elem? s.views other ≡ some w = sym (set_else s.views id other both apart) ∙ at' in
    let f = fit_at key s o id v at live in
    let g = fit_at key s o other w there live' in record {
      meets = o.meets;
      rising = o.rising;
      below = o.below;
      small_count = o.small_count;
      some_block = o.some_block;
      two_words = o.two_words;
      once = λ n. omega (arith, sum-set (λ (u : View). times n u.mine) s.views id v both at, sum-set (λ (u : View). times n u.mine) vs other w spent at', sum_by-append (λ x. one_if (x == n)) v.mine w.mine, o.once n);
      found = o.found;
      whole = omega (arith, sum-set (λ (u : View). u.parts + u.spare) s.views id v both at, sum-set (λ (u : View). u.parts + u.spare) vs other w spent at', o.whole);
      fits = All-set P vs other spent (inl refl) (All-set P s.views id both (inr (joined_fits key o.meets (least_of s) v w f g ended)) o.fits);
    }

-- the first of numbers that rise is the least of them
rising_first : (xs : List ℕ) → IsStrictlyIncreasing xs → (j : ℕ) → j < length xs → get_or xs 0 0 ≤ get_or xs j 0
rising_first xs rising zero l = omega arith
rising_first xs rising (suc j) l = let up : get_or xs j 0 < get_or xs (suc j) 0 = subst (λ (i : ℕ). get_or xs j 0 < get_or xs i 0) (omega arith) (rising j (omega (arith, l))) in omega (arith, rising_first xs rising j (omega arith), up)

first_is : (count : ℕ) (meets : List ℕ) (x : ℕ) → IsStrictlyIncreasing meets → All (λ k. k < count) meets → (x ≡ count) ⊎ Contains meets x → ((k : ℕ) → Contains meets k → x ≤ k) → x ≡ first_of count meets
first_is count [] x rising below found least = ⊎_elim (λ (e : x ≡ count). e) (λ (has : Contains [] x). absurd (omega (arith, has.1))) found
first_is count (k ∷ ks) x rising below found least =
    let up : x ≤ k = least k (0, omega arith, refl) in
    let within : k < count = below 0 k (omega arith) in
    ⊎_elim (λ (e : x ≡ count). absurd (omega arith))
    (λ (has : Contains (k ∷ ks) x). let at : get_or (k ∷ ks) has.0 0 ≡ x = get_or_default (k ∷ ks) has.0 0 x has.1 ∙ has.2 in omega (arith, at, rising_first (k ∷ ks) rising has.0 has.1)) found

-- what stands once one seat stands for all 64, and its last claim started at or above what it has seen
pub record IsDone (v : View) (least : ℕ) : Type 0 where
  pub next : ℕ
  pub first : least ≡ first_of v.count v.meets
  pub once : HasEachOnce v.mine next
  pub last_below : ForSome v.last (λ n. n < next)

pub closes : (key : Key) (s : St) (o : IsKept key s) (id : ℕ) (v : View) → get_elem? s.views id ≡ some v → 0 < v.parts → v.parts + v.spare ≡ 64 → IsOver v → IsDone v (least_of s)
closes key s o id v at live all over =
    let f = fit_at key s o id v at live in
    let least : ℕ = least_of s in
    let last : ℕ = over.0 in
    let once : HasEachOnce v.mine (next_of s) = alone-once key s o id v at all in
    let last_below : (n : ℕ) → v.last ≡ Some n → n < next_of s = λ n e. each_below v.mine (next_of s) once n (times-Contains v.mine n (f.last_is_mine n e)) in
    let none_lower : (k : ℕ) → Contains o.meets k → least ≤ k = λ k has. ⊎_elim
    (λ (low : k < least).
    let n : ℕ = k / v.block in
    let size : 0 < v.block = omega (arith, o.some_block, f.block) in
    let low' : k < v.seen = omega (arith, f.not_lost) in
    let within : k < v.count = omega (arith, All-contains (λ x. x < key.count) o.meets k o.below has, f.count) in
    let split : n * v.block + k % v.block ≡ k = div-add-mod' k v.block in
    let rest : k % v.block < v.block = mod_below k v.block size in
    let before : n < last = ⊎_elim (λ (l : n < last). l) (λ (g : last ≤ n). let up : last * v.block ≤ n * v.block = mul-le-mul_right v.block g in absurd (omega (arith, over.2))) (cases_lt n last) in
    let early : n < next_of s = omega (arith, last_below last over.1) in
    let mine : Contains v.mine n = Contains-times v.mine n (omega (arith, once n, ap one_if (lt-ltb n (next_of s) early))) in
    absurd (omega (arith, same_Some n last (sym (f.tried k n has low' mine (omega arith, omega arith, within)) ∙ over.1))))
    (λ (g : least ≤ k). g) (cases_lt k least) in
    record {
      next = next_of s;
      first = first_is key.count o.meets least o.rising o.below o.found none_lower ∙ ap (λ (z : ℕ × List ℕ). first_of z.0 z.1) (λ i. (sym f.count i, sym f.meets_same i));
      once = once;
      last_below = last_below;
    }

-- the same of the words that a closed table has
pub ends : (key : Key) (id : ℕ) (v : View) (ws : List ℕ) (xs : List (Unit {0})) (least : ℕ) → 0 < v.parts → v.parts + v.spare ≡ 64 → IsOver v
    → Final (Seen (IsKept key) id v) ws xs → get_elem? ws 1 ≡ some least → IsDone v least
ends key id v ws xs least live all over last at =
    let s : St = last.0 in
    let found : get_or s.words 1 0 ≡ least = ap (λ (l : List ℕ). get_or l 1 0) last.2 ∙ (at_place ws 1 least 0 at).1 in
    subst (IsDone v) found (closes key s last.1.0 id v last.1.1 live all over)

pub done-each : (v : View) (least : ℕ) → IsDone v least → ForSome v.last (λ last. (n : ℕ) → n < last → Contains v.mine n)
done-each v least done last e n l = Contains-times v.mine n (omega (arith, done.once n, ap one_if (lt-ltb n done.next (omega (arith, done.last_below last e)))))

pub done-once : (v : View) (least : ℕ) → IsDone v least → (n : ℕ) → times n v.mine ≤ 1
done-once v least done n = ⊎_elim (λ (l : n < done.next). omega (arith, done.once n, ap one_if (lt-ltb n done.next l))) (λ (g : done.next ≤ n). omega (arith, done.once n, ap one_if (le-ltb n done.next g))) (cases_lt n done.next)

pub done-weighed : (v : View) (least : ℕ) → IsDone v least → (next : ℕ) × ForSome v.last (λ last. last < next) × ((f : ℕ → ℕ) → sum_by f v.mine ≡ sum_below f next)
done-weighed v least done = (done.next, done.last_below, λ f. weighed f v.mine done.next done.once)
