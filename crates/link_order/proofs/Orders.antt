-- Lists that are filtered, and the order in its two parts.
use Rattle.std.proofs.Common.{◌≡◌, ◌≢◌, ℕ, zero, suc, ◌+◌, ◌<◌, ◌≤◌, Bool, length-append, not, true, false, ◌&&◌, List, [], ◌∷◌, ◌++◌, length}
use Rattle.std.proofs.Common.{get_or, set, take, map, All, refl, sym, ap, ◌∙◌, subst, ⊎_elim, arith}
use Rattle.std.specs.List.{filter}
use Rattle.std.proofs.lemmas.Bool.{cases_Bool, ne_eqb, cond-true, cond-false, not-false, not-true, eqb-true, eqb-false}
use Rattle.std.proofs.lemmas.Grind.{common_steps}
use Rattle.std.proofs.lemmas.List.{map-append, append-nil, take_more_set, get_or_append_left}
use Rattle.std.proofs.lemmas.List.Elements.{filter-append, filter_agree, filter_more, filter_passes}
use Rattle.std.proofs.lemmas.List.Elements.{All-weaker, All-append, All-nil, All-cons, All-filter, All-head, All-tail}
use Rattle.std.proofs.lemmas.List.Kept.{AllPairs-cons, AllPairs-filter}
use Rattle.link_order.specs.declared.linked.Linked.{Linked}
use Rattle.link_order.specs.Links.{is_other, stands_in, block_things, EachOnce, IsWithin}
use Rattle.link_order.specs.Parts.{in_front, begins_with, is_fresh, order_of, IsOrder}

-- two filters, one after the other, in either order
filter_comm : {X : Type 0} (p q : X → Bool) (xs : List X) → filter p (filter q xs) ≡ filter q (filter p xs)
filter_comm p q [] = refl
filter_comm p q (x ∷ xs) = grind (arith, common_steps, filter_comm p q xs)

-- two filters as one
filter-filter : {X : Type 0} (p q : X → Bool) (xs : List X) → filter p (filter q xs) ≡ filter (λ x. q x && p x) xs
filter-filter p q [] = refl
filter-filter p q (x ∷ xs) = grind (arith, common_steps, filter-filter p q xs)

-- a filter that keeps all
filter_all : {X : Type 0} (xs : List X) → filter (λ _. true) xs ≡ xs
filter_all [] = refl
filter_all (x ∷ xs) = ap (λ ys. x ∷ ys) (filter_all xs)

-- a test more in front, or one that was made already
moved_in : (a b c d : Bool) → (a && c) ≡ (d && a) → (a && (b && c)) ≡ ((b && d) && a)
moved_in true true c d e = e
moved_in true false c d e = refl
moved_in false true c d e = e
moved_in false false c d e = refl

made_already : (a c d : Bool) → (a && c) ≡ (d && a) → (a && c) ≡ ((a && d) && a)
made_already true c d e = e
made_already false c d e = refl

-- what is fresh after a link: what was fresh before, without the thing that is linked
fresh_after : (first : Linked) (recent : List Linked) (y : Linked)
    → is_fresh (in_front first recent) y ≡ (is_fresh recent y && is_other first.thing y)
fresh_after first [] y = grind (arith, common_steps)
fresh_after first (own ∷ recent) y =
    let here = is_other first.thing y in
    let rest = is_fresh (filter (is_other first.thing) recent) y in
    let so_far = fresh_after first recent y in
    ⊎_elim
    (λ (other : is_other first.thing own ≡ true). rw other (moved_in here (is_other own.thing y) rest (is_fresh recent y) so_far))
    (λ (again : is_other first.thing own ≡ false).
    let same : own.thing ≡ first.thing = eqb-true own.thing first.thing (not-false _ again) in
    rw again (rw same (made_already here rest (is_fresh recent y) so_far)))
    (cases_Bool (is_other first.thing own))

-- a link in the order is a link in the latest
pub order_of-in_front : (first : Linked) (recent entries : List Linked)
    → order_of (in_front first recent) entries ≡ in_front first (order_of recent entries)
order_of-in_front first recent entries =
    let others = is_other first.thing in
    ap (λ rest. in_front first recent ++ rest)
    (filter_agree _ _ (fresh_after first recent) entries ∙ sym (filter-filter others (is_fresh recent) entries))
    ∙ ap (λ rest. first ∷ rest) (sym (filter-append others recent (filter (is_fresh recent) entries)))

-- with no link since, the order is the base
pub order_of-none : (entries : List Linked) → order_of [] entries ≡ entries
order_of-none entries = filter_all entries

-- all blocks of the order are the level's
pub order_of-within : (blocks : ℕ) (recent entries : List Linked) → All (IsWithin blocks) recent
    → All (IsWithin blocks) entries → All (IsWithin blocks) (order_of recent entries)
order_of-within blocks recent entries near far =
    All-append (IsWithin blocks) recent _ near (All-filter (is_fresh recent) (IsWithin blocks) entries far)

-- each thing stands once after a link
EachOnce-in_front : (first : Linked) (order : List Linked) → EachOnce order → EachOnce (in_front first order)
EachOnce-in_front first order once =
    let others = is_other first.thing in
    let apart : All (λ (linked : Linked). first.thing ≢ linked.thing) (filter others order) =
    All-weaker _ (λ linked. first.thing ≢ linked.thing)
    (λ linked passes same. eqb-false linked.thing first.thing (not-true _ passes) (sym same)) _ (filter_passes others order) in
    let R = λ (one other : Linked). one.thing ≢ other.thing in
    AllPairs-cons R first _ apart (AllPairs-filter R others order once)

-- what is kept of the parts after a link
pub IsOrder-in_front : (first : Linked) (recent entries : List Linked) (blocks : ℕ) → IsWithin blocks first
    → IsOrder recent entries blocks → IsOrder (in_front first recent) entries blocks
IsOrder-in_front first recent entries blocks here parts = record {
  once = subst EachOnce (sym (order_of-in_front first recent entries)) (EachOnce-in_front first _ parts.once);
  within = All-cons (IsWithin blocks) first _ here (All-filter (is_other first.thing) (IsWithin blocks) recent parts.within);
}

-- and where all is in the base
pub IsOrder-none : (entries : List Linked) (blocks : ℕ) → EachOnce entries → IsOrder [] entries blocks
IsOrder-none entries blocks once = record {
  once = subst EachOnce (sym (order_of-none entries)) once;
  within = All-nil (IsWithin blocks);
}

-- the things of a block in two lists
pub block_things-append : (block : ℕ) (xs ys : List Linked) → block_things block (xs ++ ys) ≡ block_things block xs ++ block_things block ys
block_things-append block xs ys =
    ap (λ kept. map (λ (linked : Linked). linked.thing) kept) (filter-append (stands_in block) xs ys)
    ∙ map-append (λ (linked : Linked). linked.thing) (filter (stands_in block) xs) (filter (stands_in block) ys)

-- nothing stands in a block that the level doesn't have
not_there : (blocks block : ℕ) (linked : Linked) → blocks ≤ block → IsWithin blocks linked → stands_in block linked ≡ false
not_there blocks block linked past within = grind (arith, common_steps)

pub block_things-none : (blocks block : ℕ) (xs : List Linked) → blocks ≤ block → All (IsWithin blocks) xs → block_things block xs ≡ []
block_things-none blocks block [] past within = refl
block_things-none blocks block (x ∷ xs) past within =
    let rest = block_things-none blocks block xs past (All-tail (IsWithin blocks) x xs within) in
    rw (not_there blocks block x past (All-head (IsWithin blocks) x xs within)) rest

-- the things of a block that were not linked since: what is left of a base is looked through for them
abbrev pub fresh_in : ℕ → List Linked → List Linked → List ℕ
fresh_in block recent entries = map (λ linked. linked.thing) (filter (is_fresh recent) (filter (stands_in block) entries))

-- whichever of the two tests is made first
pub fresh_in-is : (block : ℕ) (recent entries : List Linked)
    → fresh_in block recent entries ≡ block_things block (filter (is_fresh recent) entries)
fresh_in-is block recent entries =
    ap (λ kept. map (λ (linked : Linked). linked.thing) kept) (filter_comm (is_fresh recent) (stands_in block) entries)

-- one entry more is kept
pub put_kept : (p : Linked → Bool) (first : Linked) (kept entries : List Linked) (len i : ℕ) (d : Linked)
    → i < length entries → len < length kept → p (get_or entries i d) ≡ true → take len kept ≡ first ∷ filter p (take i entries)
    → take (len + 1) (set kept len (get_or entries i d)) ≡ first ∷ filter p (take (i + 1) entries)
put_kept p first kept entries len i d there room passes so_far =
    let x = get_or entries i d in
    take_more_set kept len x room
    ∙ ap (λ front. front ++ x ∷ []) so_far
    ∙ ap (λ more. first ∷ filter p (take i entries) ++ more) (sym (cond-true (p x) (x ∷ []) [] passes))
    ∙ ap (λ rest. first ∷ rest) (sym (filter_more p entries i d there))

-- one is left out
pub put_left : (p : Linked → Bool) (first : Linked) (front entries : List Linked) (i : ℕ) (d : Linked)
    → i < length entries → p (get_or entries i d) ≡ false → front ≡ first ∷ filter p (take i entries)
    → front ≡ first ∷ filter p (take (i + 1) entries)
put_left p first front entries i d there fails so_far =
    let x = get_or entries i d in
    so_far ∙ ap (λ rest. first ∷ rest)
    (sym (append-nil (filter p (take i entries)))
    ∙ ap (λ more. filter p (take i entries) ++ more) (sym (cond-false (p x) (x ∷ []) [] fails))
    ∙ sym (filter_more p entries i d there))

-- in a front part of a list each thing stands once too
pub once_in_front_part : (xs ys : List Linked) → EachOnce (xs ++ ys) → EachOnce xs
once_in_front_part xs ys once = λ i j d before below.
    let here : i < length xs = omega arith in
    let apart = once i j d before (omega (arith, length-append xs ys, below)) in
    rw (get_or_append_left xs ys d i here, get_or_append_left xs ys d j below) at apart

-- those after an entry are of other things
others_pass : (thing : ℕ) (xs : List Linked) → All (λ (linked : Linked). thing ≢ linked.thing) xs → filter (is_other thing) xs ≡ xs
others_pass thing [] apart = refl
others_pass thing (x ∷ xs) apart =
    let P = λ (linked : Linked). thing ≢ linked.thing in
    let other : x.thing ≢ thing = λ same. All-head P x xs apart (sym same) in
    rw (ne_eqb x.thing thing other) (ap (λ rest. x ∷ rest) (others_pass thing xs (All-tail P x xs apart)))

-- where the entry in front is of the thing already, it is replaced
pub replaced_in_front : (first : Linked) (entries : List Linked) → begins_with first.thing entries ≡ true → EachOnce entries → set entries 0 first ≡ in_front first entries
replaced_in_front first [] begins once = absurd cc
replaced_in_front first (x ∷ xs) begins once =
    let same : x.thing ≡ first.thing = eqb-true x.thing first.thing (not-false _ (ap not begins)) in
    let apart : All (λ (linked : Linked). first.thing ≢ linked.thing) xs = λ k d below again. once 0 (suc k) d (omega arith) (omega (arith, below)) (same ∙ again) in
    rw begins (ap (λ rest. first ∷ rest) (sym (others_pass first.thing xs apart)))

-- the same for a front part of a list
front_replaced : (first : Linked) (entries : List Linked) (len : ℕ) → begins_with first.thing (take len entries) ≡ true → EachOnce (take len entries) → take len (set entries 0 first) ≡ in_front first (take len entries)
front_replaced first entries zero begins once = absurd cc
front_replaced first [] (suc len) begins once = absurd cc
front_replaced first (x ∷ xs) (suc len) begins once = replaced_in_front first (x ∷ take len xs) begins once

pub part_replaced : (first : Linked) (entries : List Linked) (len : ℕ) (part : List Linked) → take len entries ≡ part → begins_with first.thing part ≡ true → EachOnce part → take len (set entries 0 first) ≡ in_front first part
part_replaced first entries len part is =
    let Replaced : List Linked → Type 0 = λ part. begins_with first.thing part ≡ true → EachOnce part → take len (set entries 0 first) ≡ in_front first part in
    subst Replaced is (front_replaced first entries len)
