-- Thinkers of which those that have ended may be left out.
use Rattle.std.proofs.Common.{◌≡◌, ◌≢◌, ℕ, zero, suc, ◌+◌, ◌-◌, ◌*◌, ◌<◌, ◌≤◌, ◌==◌, Bool, true, false, List, [], ◌∷◌, ◌++◌, length, get_or, set, slice_get, Option, Some, None, map, filter, take, All, refl, sym, ap, ◌∙◌, inl, inr, arith, length-append, length-set, zero-add}
use Rattle.std.specs.Prelude.{find, position, nat_lt}
use Rattle.std.specs.List.{range_with_len, position_or_len}
use Rattle.std.specs.Option.{option_or}
use Rattle.std.proofs.lemmas.Bool.{cases_Bool, cases_lt, cases_eq, eq-eqb, ne_eqb, eqb-true}
use Rattle.std.proofs.lemmas.Bool.Decides.{nat_tests}
use Rattle.std.proofs.lemmas.List.{get_or-set_same, get_or-set_other}
use Rattle.std.proofs.lemmas.List.Elements.{All-head, All-tail, All-weaker, All-from_get_or, All-get_or, All-push, All-set, All-filter, filter_more}
use Rattle.std.proofs.lemmas.List.Folds.{find_at, find-set, find_past, find-append}
use Rattle.std.proofs.lemmas.List.FromFn.{get_or-map-range_with_len, length-map-range_with_len, map-range_with_len_more, fill_by_all}
use Rattle.std.proofs.lemmas.List.Kept.{AllPairs-filter}
use Rattle.std.proofs.lemmas.List.Quantifiers.{all_pairs_push, position-Some}
use Rattle.std.proofs.lemmas.List.Sums.{position_or_len_is, fails_before_first}
use Rattle.std.proofs.lemmas.Option.{slice_get-get_or, get_or_from_slice_get, none-some}
use Rattle.page_store.specs.Pages.{page_count}
use Rattle.cow_world.specs.declared.records.Thinker.{Thinker}
use Rattle.cow_world.specs.declared.records.Thinker.TheVariants.{Door, Lift, Floor, Light, Ended}
use Rattle.cow_world.specs.declared.kept_thinkers.Placed.{Placed}
use Rattle.cow_world.specs.KeptThinkers.{has_ended, is_running, entry_at, no_entry, stands_at, thinker_of, thinker_in, spread, Rise, AreMade, ArePlaced}

-- ---- lists that are made place by place

same_spread : {X : Type 0} (f g : ℕ → X) (made : ℕ) (d : X) → ((i : ℕ) → i < made → f i ≡ g i) → map f (range_with_len 0 made) ≡ map g (range_with_len 0 made)
same_spread f g made d agree =
    fill_by_all g (map f (range_with_len 0 made)) made d (length-map-range_with_len f 0 made)
    (λ k below. get_or-map-range_with_len f 0 made k k d below (zero-add k) ∙ agree k below)

-- another element at one place
spread_set : {X : Type 0} (f g : ℕ → X) (made i : ℕ) (to : X) → i < made → g i ≡ to → ((j : ℕ) → j ≢ i → g j ≡ f j) → map g (range_with_len 0 made) ≡ set (map f (range_with_len 0 made)) i to
spread_set f g made i to there own others =
    let all = map f (range_with_len 0 made) in
    let long : length all ≡ made = length-map-range_with_len f 0 made in
    sym (fill_by_all g (set all i to) made to (length-set all i to ∙ long)
    (λ k below. elim (cases_eq k i) [
      | inl same ↦ rw same (get_or-set_same all i to to (omega (arith, long, there)) ∙ sym own)
      | inr other ↦ get_or-set_other all i k to to other ∙ get_or-map-range_with_len f 0 made k k to below (zero-add k) ∙ sym (others k other)
    ]))

-- ---- where an entry stands

module _ {X : Type 0} (p : X → Bool) (xs : List X) where
  -- the first that passes is at a place
  pub position_is : (k : ℕ) (d : X) → k < length xs → p (get_or xs k d) ≡ true → ((j : ℕ) → j < k → p (get_or xs j d) ≡ false) → position p xs ≡ Some k
  position_is k d there passes before =
      let at : position_or_len p xs ≡ k = position_or_len_is p xs k d (omega (arith, there)) before (λ _. passes) in
      let within : nat_lt k (length xs) ≡ true = grind (arith, nat_tests, there) in
      rw (at, within) refl

  -- none passes
  pub position_none : (d : X) → ((j : ℕ) → j < length xs → p (get_or xs j d) ≡ false) → position p xs ≡ None
  position_none d none =
      let at : position_or_len p xs ≡ length xs = position_or_len_is p xs (length xs) d (omega arith) none (λ below. absurd (omega (arith, below))) in
      let past : nat_lt (length xs) (length xs) ≡ false = grind (arith, nat_tests) in
      rw (at, past) refl

  first_is : (k : ℕ) (d : X) → position p xs ≡ Some k → position_or_len p xs ≡ k
  first_is k d is =
      let found = position-Some p xs k d is in
      position_or_len_is p xs k d (omega (arith, found.0)) found.2 (λ _. found.1)

pub no_place : (o : Option ℕ) → ((k : ℕ) → o ≡ Some k → ⊥) → o ≡ None
no_place None not_some = refl
no_place (Some k) not_some = absurd (not_some k refl)

find_fails : {X : Type 0} (p : X → Bool) (xs : List X) → All (λ x. p x ≡ false) xs → find p xs ≡ None
find_fails p [] none = refl
find_fails {X} p (x ∷ xs) none =
    let Fails : X → Type 0 = λ y. p y ≡ false in
    let own : p x ≡ false = All-head Fails x xs none in
    rw own (find_fails p xs (All-tail Fails x xs none))

find_none : {X : Type 0} (p : X → Bool) (xs : List X) (d : X) → position p xs ≡ None → find p xs ≡ None
find_none {X} p xs d none =
    let Fails : X → Type 0 = λ y. p y ≡ false in
    find_fails p xs (All-from_get_or Fails xs d (λ i below. elim (cases_lt i (position_or_len p xs)) [
      | inl before ↦ fails_before_first p xs i d before
      | inr past ↦
          let within : nat_lt (position_or_len p xs) (length xs) ≡ true = grind (arith, nat_tests, past, below) in
          let some : Some (position_or_len p xs) ≡ None = rw within at none in
          absurd (none-some (position_or_len p xs) (sym some))
    ]))

-- ---- reading

pub read_at : (made : ℕ) (revived kept : List Placed) (i : ℕ) → i < made → slice_get (spread made revived kept) i ≡ Some (thinker_in revived kept i)
read_at made revived kept i below =
    let long : length (spread made revived kept) ≡ made = length-map-range_with_len (thinker_in revived kept) 0 made in
    slice_get-get_or (spread made revived kept) i Ended (omega (arith, long, below))
    ∙ ap Some (get_or-map-range_with_len (thinker_in revived kept) 0 made i i Ended below (zero-add i))

pub many_made : (made : ℕ) (revived kept : List Placed) → length (spread made revived kept) ≡ made
many_made made revived kept = length-map-range_with_len (thinker_in revived kept) 0 made

-- the one that came back to life, the one that is kept, or one that has ended
pub read_revived : (revived kept : List Placed) (i k : ℕ) (d : Placed) → position (stands_at i) revived ≡ Some k → thinker_in revived kept i ≡ (get_or revived k d).thinker
read_revived revived kept i k d is =
    let found = position-Some (stands_at i) revived k d is in
    let own : find (stands_at i) revived ≡ Some (get_or revived k d) = find_at (stands_at i) revived ∙ ap (λ q. slice_get revived q) (first_is (stands_at i) revived k d is) ∙ slice_get-get_or revived k d found.0 in
    rw own refl

pub read_kept : (revived kept : List Placed) (i k : ℕ) → position (stands_at i) revived ≡ None → position (stands_at i) kept ≡ Some k → thinker_in revived kept i ≡ (get_or kept k no_entry).thinker
read_kept revived kept i k none is =
    let found = position-Some (stands_at i) kept k no_entry is in
    let own : find (stands_at i) kept ≡ Some (get_or kept k no_entry) = find_at (stands_at i) kept ∙ ap (λ q. slice_get kept q) (first_is (stands_at i) kept k no_entry is) ∙ slice_get-get_or kept k no_entry found.0 in
    rw (find_none (stands_at i) revived no_entry none, own) refl

pub read_ended : (revived kept : List Placed) (i : ℕ) → position (stands_at i) revived ≡ None → position (stands_at i) kept ≡ None → thinker_in revived kept i ≡ Ended
read_ended revived kept i none neither = rw (find_none (stands_at i) revived no_entry none, find_none (stands_at i) kept no_entry neither) refl

-- ---- writing

-- another thinker at the place of an entry, for the finds of this place and of others
module _ (entries : List Placed) (i k : ℕ) (to : Thinker) (is : position (stands_at i) entries ≡ Some k) where
  place_is : (d : Placed) → (get_or entries k d).place ≡ i
  place_is d = eqb-true (get_or entries k d).place i (position-Some (stands_at i) entries k d is).1

  set_here : find (stands_at i) (set entries k (entry_at i to)) ≡ Some (entry_at i to)
  set_here =
      find-set (stands_at i) entries k (entry_at i to) (sym (first_is (stands_at i) entries k no_entry is))
      (position-Some (stands_at i) entries k no_entry is).0 (eq-eqb i i refl)

  set_there : (j : ℕ) → j ≢ i → find (stands_at j) (set entries k (entry_at i to)) ≡ find (stands_at j) entries
  set_there j other =
      find_past (stands_at j) entries k (entry_at i to) no_entry
      (ne_eqb (get_or entries k no_entry).place j (λ same. other (sym same ∙ place_is no_entry)))
      (ne_eqb i j (λ same. other (sym same)))

  same_places : (q : ℕ) (d : Placed) → (get_or (set entries k (entry_at i to)) q d).place ≡ (get_or entries q d).place
  same_places q d = elim (cases_eq q k) [
    | inl same ↦
        let there : k < length entries = (position-Some (stands_at i) entries k d is).0 in
        rw same (ap (λ (entry : Placed). entry.place) (get_or-set_same entries k (entry_at i to) d there) ∙ sym (place_is d))
    | inr other ↦ ap (λ (entry : Placed). entry.place) (get_or-set_other entries k q (entry_at i to) d other)
  ]

  pub rise-set : Rise entries → Rise (set entries k (entry_at i to))
  rise-set rise = λ a b d before below.
      let within : b < length entries = omega (arith, below, length-set entries k (entry_at i to)) in
      omega (arith, same_places a d, same_places b d, rise a b d before within)

pub set_revived : (made : ℕ) (revived kept : List Placed) (i k : ℕ) (to : Thinker) → i < made → position (stands_at i) revived ≡ Some k → spread made (set revived k (entry_at i to)) kept ≡ set (spread made revived kept) i to
set_revived made revived kept i k to there is =
    spread_set (thinker_in revived kept) (thinker_in (set revived k (entry_at i to)) kept) made i to there
    (rw (set_here revived i k to is) refl)
    (λ j other. rw (set_there revived i k to is j other) refl)

pub set_kept : (made : ℕ) (revived kept : List Placed) (i k : ℕ) (to : Thinker) → i < made → position (stands_at i) revived ≡ None → position (stands_at i) kept ≡ Some k → spread made revived (set kept k (entry_at i to)) ≡ set (spread made revived kept) i to
set_kept made revived kept i k to there none is =
    spread_set (thinker_in revived kept) (thinker_in revived (set kept k (entry_at i to))) made i to there
    (rw (find_none (stands_at i) revived no_entry none, set_here kept i k to is) refl)
    (λ j other. rw (set_there kept i k to is j other) refl)

option_or_none : {X : Type 0} (o : Option X) → option_or o None ≡ o
option_or_none None = refl
option_or_none (Some x) = refl

-- one more entry, for the finds of its place and of others
push_here : (entries : List Placed) (i : ℕ) (to : Thinker) → find (stands_at i) entries ≡ None → find (stands_at i) (entries ++ entry_at i to ∷ []) ≡ Some (entry_at i to)
push_here entries i to none =
    find-append (stands_at i) entries (entry_at i to ∷ []) ∙ rw (none, eq-eqb i i refl) refl

push_there : (entries : List Placed) (i j : ℕ) (to : Thinker) → j ≢ i → find (stands_at j) (entries ++ entry_at i to ∷ []) ≡ find (stands_at j) entries
push_there entries i j to other =
    let miss : (i == j) ≡ false = ne_eqb i j (λ same. other (sym same)) in
    find-append (stands_at j) entries (entry_at i to ∷ []) ∙ rw miss (option_or_none (find (stands_at j) entries))

-- one that comes back to life, and one that has ended and ends again
pub set_back : (made : ℕ) (revived kept : List Placed) (i : ℕ) (to : Thinker) → i < made → position (stands_at i) revived ≡ None → spread made (revived ++ entry_at i to ∷ []) kept ≡ set (spread made revived kept) i to
set_back made revived kept i to there none =
    spread_set (thinker_in revived kept) (thinker_in (revived ++ entry_at i to ∷ []) kept) made i to there
    (rw (push_here revived i to (find_none (stands_at i) revived no_entry none)) refl)
    (λ j other. rw (push_there revived i j to other) refl)

ended_is : (thinker : Thinker) → has_ended thinker ≡ true → thinker ≡ Ended
ended_is Ended is = refl
ended_is (Door sector kind phase top count) is = absurd cc
ended_is (Lift sector kind phase stopped low high wait count) is = absurd cc
ended_is (Floor sector kind dest) is = absurd cc
ended_is (Light sector kind min max count dark up) is = absurd cc

pub set_ended : (made : ℕ) (revived kept : List Placed) (i : ℕ) (to : Thinker) → i < made → position (stands_at i) revived ≡ None → position (stands_at i) kept ≡ None → has_ended to ≡ true → spread made revived kept ≡ set (spread made revived kept) i to
set_ended made revived kept i to there none neither ends =
    spread_set (thinker_in revived kept) (thinker_in revived kept) made i to there
    (read_ended revived kept i none neither ∙ sym (ended_is to ends))
    (λ j other. refl)

-- ---- one more thinker

not_made : (made : ℕ) (entries : List Placed) → AreMade made entries → find (stands_at made) entries ≡ None
not_made made entries below =
    find_fails (stands_at made) entries
    (All-weaker (λ (entry : Placed). entry.place < made) (λ (entry : Placed). stands_at made entry ≡ false)
    (λ entry under. ne_eqb entry.place made (λ same. omega (arith, under, same))) entries below)

pub pushed : (made : ℕ) (revived kept : List Placed) (to : Thinker) → ArePlaced made revived kept → spread (made + 1) revived (kept ++ entry_at made to ∷ []) ≡ spread made revived kept ++ to ∷ []
pushed made revived kept to placed =
    let grown = kept ++ entry_at made to ∷ [] in
    let new : thinker_in revived grown made ≡ to = rw (not_made made revived placed.others, push_here kept made to (not_made made kept placed.places)) refl in
    let others : map (thinker_in revived grown) (range_with_len 0 made) ≡ spread made revived kept =
    same_spread (thinker_in revived grown) (thinker_in revived kept) made Ended
    (λ i below. rw (push_there kept made i to (λ same. omega (arith, below, same))) refl) in
    map-range_with_len_more (thinker_in revived grown) 0 made made (zero-add made) ∙ rw (new, others) refl

made_more : (made : ℕ) (entries : List Placed) → AreMade made entries → AreMade (made + 1) entries
made_more made entries below =
    All-weaker (λ (entry : Placed). entry.place < made) (λ (entry : Placed). entry.place < made + 1) (λ entry under. omega (arith, under)) entries below

pub placed-push : (made : ℕ) (revived kept : List Placed) (to : Thinker) → ArePlaced made revived kept → ArePlaced (made + 1) revived (kept ++ entry_at made to ∷ [])
placed-push made revived kept to placed = record {
  rise = all_pairs_push (λ (a b : Placed). a.place < b.place) kept (entry_at made to) placed.rise (λ k d below. All-get_or (λ (entry : Placed). entry.place < made) kept k d below placed.places);
  places = All-push (λ (entry : Placed). entry.place < made + 1) kept (entry_at made to) (made_more made kept placed.places) (omega arith);
  others = made_more made revived placed.others;
  few = omega (arith, placed.few, length-append kept (entry_at made to ∷ []));
}

-- ---- what a write keeps

pub placed-kept : (made : ℕ) (revived kept : List Placed) (i k : ℕ) (to : Thinker) → i < made → position (stands_at i) kept ≡ Some k → ArePlaced made revived kept → ArePlaced made revived (set kept k (entry_at i to))
placed-kept made revived kept i k to there is placed = record {
  rise = rise-set kept i k to is placed.rise;
  places = All-set (λ (entry : Placed). entry.place < made) kept k (entry_at i to) there placed.places;
  others = placed.others;
  few = omega (arith, placed.few, length-set kept k (entry_at i to));
}

pub placed-revived : (made : ℕ) (revived kept : List Placed) (i k : ℕ) (to : Thinker) → i < made → ArePlaced made revived kept → ArePlaced made (set revived k (entry_at i to)) kept
placed-revived made revived kept i k to there placed = record {
  rise = placed.rise;
  places = placed.places;
  others = All-set (λ (entry : Placed). entry.place < made) revived k (entry_at i to) there placed.others;
  few = placed.few;
}

pub placed-back : (made : ℕ) (revived kept : List Placed) (i : ℕ) (to : Thinker) → i < made → ArePlaced made revived kept → ArePlaced made (revived ++ entry_at i to ∷ []) kept
placed-back made revived kept i to there placed = record {
  rise = placed.rise;
  places = placed.places;
  others = All-push (λ (entry : Placed). entry.place < made) revived (entry_at i to) placed.others there;
  few = placed.few;
}

-- ---- without those that have ended

rise-tail : (entry : Placed) (rest : List Placed) → Rise (entry ∷ rest) → Rise rest
rise-tail entry rest rise = λ a b d before below. rise (suc a) (suc b) d (omega (arith, before)) (omega (arith, below))

-- none behind the first stands at its place
none_behind : (entry : Placed) (rest : List Placed) (i : ℕ) → Rise (entry ∷ rest) → stands_at i entry ≡ true → find (stands_at i) rest ≡ None
none_behind entry rest i rise own =
    find_fails (stands_at i) rest (All-from_get_or (λ (other : Placed). stands_at i other ≡ false) rest no_entry (λ k below.
    let at : entry.place ≡ i = eqb-true entry.place i own in
    let above : entry.place < (get_or rest k no_entry).place = rise 0 (suc k) no_entry (omega arith) (omega (arith, below)) in
    ne_eqb (get_or rest k no_entry).place i (λ same. omega (arith, at, above, same))))

running_same : (kept : List Placed) (i : ℕ) → Rise kept → thinker_of (find (stands_at i) (filter is_running kept)) ≡ thinker_of (find (stands_at i) kept)
running_same [] i rise = refl
running_same (entry ∷ rest) i rise =
    let later = running_same rest i (rise-tail entry rest rise) in
    elim (cases_Bool (has_ended entry.thinker)) [
      | inr runs ↦ elim (cases_Bool (stands_at i entry)) [
        | inl own ↦ rw (runs, own) refl
        | inr other ↦ rw (runs, other) later
      ]
      | inl ends ↦ elim (cases_Bool (stands_at i entry)) [
        | inl own ↦
            let none : find (stands_at i) rest ≡ None = none_behind entry rest i rise own in
            let gone : thinker_of (find (stands_at i) (filter is_running rest)) ≡ Ended = later ∙ ap thinker_of none in
            rw (ends, own) (gone ∙ sym (ended_is entry.thinker ends))
        | inr other ↦ rw (ends, other) later
      ]
    ]

after_revived : (o a b : Option Placed) → thinker_of a ≡ thinker_of b → thinker_of (option_or o a) ≡ thinker_of (option_or o b)
after_revived None a b same = same
after_revived (Some entry) a b same = refl

pub forgotten : (made : ℕ) (revived kept : List Placed) → Rise kept → spread made revived (filter is_running kept) ≡ spread made revived kept
forgotten made revived kept rise =
    same_spread (thinker_in revived (filter is_running kept)) (thinker_in revived kept) made Ended
    (λ i below. after_revived (find (stands_at i) revived) (find (stands_at i) (filter is_running kept)) (find (stands_at i) kept) (running_same kept i rise))

few_pass : {X : Type 0} (p : X → Bool) (xs : List X) → length (filter p xs) ≤ length xs
few_pass p [] = omega arith
few_pass p (x ∷ xs) = elim (cases_Bool (p x)) [
  | inl passes ↦ rw passes (omega (arith, few_pass p xs))
  | inr fails ↦ rw fails (omega (arith, few_pass p xs))
]

pub placed-forgotten : (made : ℕ) (revived kept : List Placed) → ArePlaced made revived kept → ArePlaced made revived (filter is_running kept)
placed-forgotten made revived kept placed = record {
  rise = AllPairs-filter (λ (a b : Placed). a.place < b.place) is_running kept placed.rise;
  places = All-filter is_running (λ (entry : Placed). entry.place < made) kept placed.places;
  others = placed.others;
  few = omega (arith, few_pass is_running kept, placed.few);
}

-- one more of those that run
pub running_more : (kept old new : List Placed) (k : ℕ) (entry : Placed) → k < length kept → slice_get kept k ≡ Some entry → old ≡ filter is_running (take k kept) → new ≡ old ++ filter is_running (entry ∷ []) → new ≡ filter is_running (take (k + 1) kept)
running_more kept old new k entry there read so_far more =
    let own : get_or kept k no_entry ≡ entry = get_or_from_slice_get kept k entry no_entry read in
    more ∙ rw (so_far, ← own) (sym (filter_more is_running kept k no_entry there))

-- ---- a look for a place

module _ (kept : List Placed) (rise : Rise kept) where
  -- the k-th stands at the place: none before it does
  pub stands_first : (place k : ℕ) → k < length kept → (get_or kept k no_entry).place ≡ place → position (stands_at place) kept ≡ Some k
  stands_first place k there at =
      position_is (stands_at place) kept k no_entry there (eq-eqb (get_or kept k no_entry).place place at)
      (λ j before. ne_eqb (get_or kept j no_entry).place place (λ same. omega (arith, at, same, rise j k no_entry before there)))

  at_least : (k : ℕ) → k < length kept → k ≤ (get_or kept k no_entry).place
  at_least zero there = omega arith
  at_least (suc k) there = omega (arith, at_least k (omega (arith, there)), rise k (suc k) no_entry (omega arith) there)

  at_most : (made : ℕ) → AreMade made kept → (left k : ℕ) → k + left + 1 ≡ length kept → (get_or kept k no_entry).place + left < made
  at_most made below zero k is = omega (arith, All-get_or (λ (entry : Placed). entry.place < made) kept k no_entry (omega (arith, is)) below)
  at_most made below (suc left) k is =
      omega (arith, at_most made below left (k + 1) (omega (arith, is)), rise k (k + 1) no_entry (omega arith) (omega (arith, is)))

  -- where as many are kept as were made, each stands at its place
  pub stands_whole : (made place : ℕ) → AreMade made kept → length kept ≡ made → place < made → position (stands_at place) kept ≡ Some place
  stands_whole made place below whole there =
      let least = at_least place (omega (arith, whole, there)) in
      let most = at_most made below (made - place - 1) place (omega (arith, whole, there)) in
      stands_first place place (omega (arith, whole, there)) (omega (arith, there, least, most))

  -- those before the k-th stand before the place, the others not, and the k-th is not there
  pub stands_nowhere : (place k : ℕ) → ((j : ℕ) → j < k → (get_or kept j no_entry).place < place) → ((j : ℕ) → k ≤ j → j < length kept → place ≤ (get_or kept j no_entry).place) → (k < length kept → (get_or kept k no_entry).place ≢ place) → position (stands_at place) kept ≡ None
  stands_nowhere place k before behind apart =
      position_none (stands_at place) kept no_entry (λ j below. ne_eqb (get_or kept j no_entry).place place (λ same. elim (cases_lt j k) [
        | inl under ↦ omega (arith, same, before j under)
        | inr over ↦ elim (cases_eq j k) [
          | inl own ↦
              let there : k < length kept = omega (arith, below, own) in
              apart there (rw own at same)
          | inr other ↦
              let there : k < length kept = omega (arith, below, over) in
              omega (arith, same, behind k (omega arith) there, rise k j no_entry (omega (arith, over, other)) below)
        ]
      ]))

  -- one step of the look for the first that doesn't stand before a place
  pub lower_more : (place middle : ℕ) → middle < length kept → (get_or kept middle no_entry).place < place → (j : ℕ) → j < middle + 1 → (get_or kept j no_entry).place < place
  lower_more place middle there under j below = elim (cases_eq j middle) [
    | inl same ↦ rw same under
    | inr other ↦ omega (arith, under, rise j middle no_entry (omega (arith, below, other)) there)
  ]

  pub upper_less : (place middle : ℕ) → place ≤ (get_or kept middle no_entry).place → (j : ℕ) → middle ≤ j → j < length kept → place ≤ (get_or kept j no_entry).place
  upper_less place middle above j from below = elim (cases_eq j middle) [
    | inl same ↦ rw same above
    | inr other ↦ omega (arith, above, rise middle j no_entry (omega (arith, from, other)) below)
  ]

-- places before the first that is kept behind them have ended
pub ended_between : (made : ℕ) (kept : List Placed) (from start k : ℕ) → ((j : ℕ) → j < k → (get_or kept j no_entry).place < from) → ((j : ℕ) → k ≤ j → j < length kept → start ≤ (get_or kept j no_entry).place) → start ≤ made → (i : ℕ) → from ≤ i → i < start → get_or (spread made [] kept) i Ended ≡ Ended
ended_between made kept from start k before behind within i above below =
    let none : find (stands_at i) kept ≡ None =
    find_fails (stands_at i) kept (All-from_get_or (λ (entry : Placed). stands_at i entry ≡ false) kept no_entry (λ j there.
    ne_eqb (get_or kept j no_entry).place i (λ same. elim (cases_lt j k) [
      | inl under ↦ omega (arith, same, above, before j under)
      | inr over ↦ omega (arith, same, below, behind j over there)
    ]))) in
    get_or-map-range_with_len (thinker_in [] kept) 0 made i i Ended (omega (arith, below, within)) (zero-add i) ∙ ap thinker_of none

-- ---- steps

pub fewer_pages : (a b : ℕ) → a ≤ b → page_count a ≤ page_count b
fewer_pages a b less = omega (arith, less)

-- a fork of the pages of what is kept takes no more steps than one of as many pages as there are thinkers
pub forked_kept : (made : ℕ) (revived kept : List Placed) (old new : ℕ) → ArePlaced made revived kept → new ≤ old + 2 * page_count (length kept) → new ≤ old + 2 * page_count (length (spread made revived kept))
forked_kept made revived kept old new placed most =
    let long : length kept ≤ length (spread made revived kept) = omega (arith, many_made made revived kept, placed.few) in
    omega (arith, most, fewer_pages (length kept) (length (spread made revived kept)) long)
