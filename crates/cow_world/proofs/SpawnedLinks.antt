-- Things that are linked one after the other, before any other was.
use Rattle.std.proofs.Common.{◌≡◌, ◌≢◌, ℕ, suc, ◌<◌, ◌==◌, List, [], ◌∷◌, ◌++◌, length, get_or, set, map, All, refl, sym, ap, ◌∙◌, arith, append_assoc}
use Rattle.std.specs.Prelude.{not, filter, fold}
use Rattle.std.specs.List.{AllPairs}
use Rattle.std.proofs.lemmas.Bool.{ne_eqb}
use Rattle.std.proofs.lemmas.List.{map-append, append-nil, set-get_or}
use Rattle.std.proofs.lemmas.List.Elements.{All-nil, All-cons, All-head, All-tail, All-append, All-weaker}
use Rattle.std.proofs.lemmas.List.Quantifiers.{all_pairs_push}
use Rattle.link_order.specs.declared.linked.Linked.{Linked}
use Rattle.link_order.specs.Links.{EachOnce}
use Rattle.cow_world.specs.declared.records.Thing.{Thing}
use Rattle.cow_world.specs.declared.grid.Grid.{Grid}
use Rattle.cow_world.specs.Flat.{Live, Flat, live, halted, Gridded, IsLive, IsLiveFlat, parts, parts_of, with_parts, no_thing, first_in}
use Rattle.cow_world.specs.Kept.{IsEntry, things_of}
use Rattle.cow_world.specs.Spawned.{link_all, latest, entry_at}

rising_tail : (x : ℕ) (xs : List ℕ) → AllPairs (λ one other. one < other) (x ∷ xs) → AllPairs (λ one other. one < other) xs
rising_tail x xs rising = λ i j d before below. rising (suc i) (suc j) d (omega (arith, before)) (omega (arith, below))

rising_head : (x : ℕ) (xs : List ℕ) → AllPairs (λ one other. one < other) (x ∷ xs) → All (λ other. x < other) xs
rising_head x xs rising = λ k d below. rising 0 (suc k) d (omega arith) (omega (arith, below))

-- what holds of what each gives
pub All-latest : {X : Type 0} (P : X → Type 0) (of : ℕ → X) (xs : List ℕ) → All (λ i. P (of i)) xs → All P (latest of xs)
All-latest P of [] all = All-nil P
All-latest P of (x ∷ xs) all =
    All-append P (latest of xs) (of x ∷ []) (All-latest P of xs (All-tail (λ i. P (of i)) x xs all)) (All-cons P (of x) [] (All-head (λ i. P (of i)) x xs all) (All-nil P))

map-latest : {X Y : Type 0} (f : X → Y) (of : ℕ → X) (xs : List ℕ) → map f (latest of xs) ≡ latest (λ i. f (of i)) xs
map-latest f of [] = refl
map-latest f of (x ∷ xs) = map-append f (latest of xs) (of x ∷ []) ∙ ap (λ front. front ++ f (of x) ∷ []) (map-latest f of xs)

-- each thing stands once
pub once_latest : (things : List Thing) (grid : Grid) (xs : List ℕ) → AllPairs (λ one other. one < other) xs → EachOnce (latest (entry_at things grid) xs)
once_latest things grid [] rising = λ i j d before below. absurd (omega (arith, below))
once_latest things grid (x ∷ xs) rising =
    let of = entry_at things grid in
    let R : Linked → Linked → Type 0 = λ one other. one.thing ≢ other.thing in
    let Apart : Linked → Type 0 = λ entry. entry.thing ≢ x in
    let apart : All Apart (latest of xs) = All-latest Apart of xs (All-weaker (λ other. x < other) (λ i. i ≢ x) (λ i above same. omega (arith, above, same)) xs (rising_head x xs rising)) in
    all_pairs_push R (latest of xs) (of x) (once_latest things grid xs (rising_tail x xs rising)) (λ k d below. apart k d below)

-- and is first in front of those before it
others_stay : (x : ℕ) (links : List ℕ) → All (λ other. other < x) links → filter (λ other. not (other == x)) links ≡ links
others_stay x [] below = refl
others_stay x (y ∷ links) below =
    let P : ℕ → Type 0 = λ other. other < x in
    let here : y < x = All-head P y links below in
    let apart : y ≢ x = λ same. omega (arith, here, same) in
    rw (ne_eqb y x apart) (ap (λ rest. y ∷ rest) (others_stay x links (All-tail P y links below)))

links_are : (xs links : List ℕ) → AllPairs (λ one other. one < other) xs → All (λ link. All (λ x. link < x) xs) links → fold (λ so_far x. first_in x so_far) links xs ≡ latest (λ i. i) xs ++ links
links_are [] links rising before = refl
links_are (x ∷ xs) links rising before =
    let Before : ℕ → Type 0 = λ link. All (λ x. link < x) xs in
    let heads : All (λ link. link < x) links = All-weaker (λ link. All (λ x. link < x) (x ∷ xs)) (λ link. link < x) (λ link all. All-head (λ y. link < y) x xs all) links before in
    let tails : All Before links = All-weaker (λ link. All (λ x. link < x) (x ∷ xs)) Before (λ link all. All-tail (λ y. link < y) x xs all) links before in
    let next : first_in x links ≡ x ∷ links = ap (λ rest. x ∷ rest) (others_stay x links heads) in
    ap (λ so_far. fold (λ so_far x. first_in x so_far) so_far xs) next
    ∙ (links_are xs (x ∷ links) (rising_tail x xs rising) (All-cons Before x links (rising_head x xs rising) tails)
    ∙ sym (append_assoc (latest (λ i. i) xs) (x ∷ []) links))

-- the world after the links: only the links are others
linked_from : (w : Gridded) (lists : Live) (xs : List ℕ) → link_all (with_parts w lists) xs ≡ with_parts w (record lists { links = fold (λ so_far x. first_in x so_far) lists.links xs })
linked_from w lists [] = refl
linked_from w lists (x ∷ xs) =
    let same : set lists.things x (get_or lists.things x no_thing) ≡ lists.things = set-get_or lists.things x no_thing in
    ap (λ things. link_all (with_parts w (record lists { things = things; links = first_in x lists.links })) xs) same
    ∙ linked_from w (record lists { links = first_in x lists.links }) xs

live_is : (flat : Flat) (grid : Grid) → IsLiveFlat flat → record { flat = flat; grid = grid } ≡ with_parts (record { flat = flat; grid = grid }) (parts_of flat)
live_is (live lists) grid is = refl
live_is (halted tic halt) grid is = absurd is

pub linked_is : (w : Gridded) (xs : List ℕ) → IsLive w → (parts w).links ≡ [] → AllPairs (λ one other. one < other) xs → link_all w xs ≡ with_parts w (record (parts w) { links = latest (λ i. i) xs })
linked_is w xs is none rising =
    let nothing : All (λ link. All (λ x. link < x) xs) [] = All-nil (λ link. All (λ x. link < x) xs) in
    let links : fold (λ so_far x. first_in x so_far) (parts w).links xs ≡ latest (λ i. i) xs =
    ap (λ before. fold (λ so_far x. first_in x so_far) before xs) none ∙ (links_are xs [] rising nothing ∙ append-nil (latest (λ i. i) xs)) in
    ap (λ world. link_all world xs) (live_is w.flat w.grid is)
    ∙ (linked_from w (parts w) xs ∙ ap (λ links. with_parts w (record (parts w) { links = links })) links)

-- the things of the entries
pub things_latest : (things : List Thing) (grid : Grid) (xs : List ℕ) → things_of (latest (entry_at things grid) xs) ≡ latest (λ i. i) xs
things_latest things grid xs = map-latest (λ (entry : Linked). entry.thing) (entry_at things grid) xs

pub entries_latest : (things : List Thing) (grid : Grid) (xs : List ℕ) → All (λ i. i < length things) xs → All (IsEntry things grid) (latest (entry_at things grid) xs)
entries_latest things grid xs there = All-latest (IsEntry things grid) (entry_at things grid) xs (λ k d below. record { there = there k d below; block = refl })
