-- The lines that come one after the other, with repeats, give what is found along the lines without them.
use Rattle.std.proofs.Common.{◌≡◌, ℕ, ◌+◌, ◌<◌, ◌≤◌, Bool, true, false, not, eqb, List, [], ◌∷◌, ◌++◌, length, append_assoc, refl, sym, ap, ◌∙◌, inl, inr, arith, length-append, subst}
use Rattle.std.specs.Prelude.{fold, filter, nat_lt, All, Result, Ok, Err, OnOk, if◌then◌else◌}
use Rattle.std.specs.List.{list_any}
use Rattle.std.proofs.lemmas.Bool.{cases_Bool, false≢true}
use Rattle.std.proofs.lemmas.Bool.Decides.{Decides-eqb}
use Rattle.std.proofs.lemmas.List.{append-nil}
use Rattle.std.proofs.lemmas.List.Elements.{All-nil, All-cons, All-append}
use Rattle.std.proofs.lemmas.List.Sums.{take_while-cons}
use Rattle.std.proofs.lemmas.List.Folds.{list_any-append}
use Rattle.game_trait.specs.declared.shown.Halt.{Halt}
use Rattle.game_trait.specs.declared.shown.Halt.TheVariants.{Listed}
use Rattle.map_geometry.specs.Lists.{Lists}
use Rattle.map_geometry.specs.declared.blocks.Block.{Block}
use Rattle.block_walk.specs.Near.{first_ones, near_all, near}
use Rattle.block_walk.proofs.Repeats.{fold_near}
use Rattle.cow_world.specs.declared.fault.PlayFault.{PlayFault}
use Rattle.cow_world.specs.Outcome.{Outcome, goes, halts, Moves}
use Rattle.clip_check.specs.declared.trial.Checked.{Checked}
use Rattle.map_geometry.specs.declared.records.Area.{Area}
use Rattle.map_geometry.specs.Blocks.{blocks_in, blocks_of}
use Rattle.cow_world.specs.Flat.{Gridded}
use Rattle.clip_check.specs.declared.trial.Trial.{Trial}
use Rattle.clip_check.specs.Things.{box_of}
use Rattle.clip_check.specs.Checks.{between, ground_of, lines_found}
use Rattle.clip_check.specs.Lines.{Tests, line_tests, narrowed, has_line, listed_one, open_lines, listed_after, found_from, found_one, found_more}
use Rattle.clip_check.proofs.Once.{same_line, passed, closed, takes_once}

-- ---- each element once

IsOnce : List ℕ → Type 0
IsOnce [] = Unit {0}
IsOnce (x ∷ xs) = (has_line xs x ≡ false) × IsOnce xs

has_filter : (p : ℕ → Bool) (xs : List ℕ) (n : ℕ) → has_line (filter p xs) n ≡ true → has_line xs n ≡ true
has_filter p [] n has = has
has_filter p (x ∷ xs) n has = elim (cases_Bool (eqb x n)) [
  | inl same ↦ rw same refl
  | inr other ↦ elim (cases_Bool (p x)) [
    | inl kept ↦ let rest : has_line (filter p xs) n ≡ true = rw (kept, other) at has in rw other (has_filter p xs n rest)
    | inr dropped ↦ let rest : has_line (filter p xs) n ≡ true = rw dropped at has in rw other (has_filter p xs n rest)
  ]
]

missing_filter : (p : ℕ → Bool) (xs : List ℕ) (n : ℕ) → has_line xs n ≡ false → has_line (filter p xs) n ≡ false
missing_filter p xs n missing = elim (cases_Bool (has_line (filter p xs) n)) [
  | inl has ↦ absurd (false≢true (sym missing ∙ has_filter p xs n has))
  | inr none ↦ none
]

once_filter : (p : ℕ → Bool) (xs : List ℕ) → IsOnce xs → IsOnce (filter p xs)
unfolding IsOnce
once_filter p [] once = tt
once_filter p (x ∷ xs) once = elim (cases_Bool (p x)) [
  | inl kept ↦ rw kept (missing_filter p xs x once.0, once_filter p xs once.1)
  | inr dropped ↦ rw dropped (once_filter p xs once.1)
]

without_it : (x : ℕ) (xs : List ℕ) → has_line (filter (λ y. not (eqb y x)) xs) x ≡ false
without_it x [] = refl
without_it x (y ∷ ys) = elim (cases_Bool (eqb y x)) [
  | inl same ↦ rw same (without_it x ys)
  | inr other ↦ rw (other, other) (without_it x ys)
]

once_first_ones : (xs : List ℕ) → IsOnce (first_ones xs)
unfolding IsOnce
once_first_ones [] = tt
once_first_ones (x ∷ xs) = (without_it x (first_ones xs), once_filter (λ y. not (eqb y x)) (first_ones xs) (once_first_ones xs))

-- ---- what is found from one line on

-- none of some lines is listed
IsFresh : List ℕ → List ℕ → Type 0
IsFresh listed lines = (n : ℕ) → has_line lines n ≡ true → has_line listed n ≡ false

fresh_rest : (listed : List ℕ) (x : ℕ) (xs : List ℕ) → IsFresh listed (x ∷ xs) → IsFresh listed xs
unfolding IsFresh
fresh_rest listed x xs fresh n has = fresh n (elim (cases_Bool (eqb x n)) [ inl same ↦ rw same refl | inr other ↦ rw other has ])

fresh_more : (listed : List ℕ) (x : ℕ) (xs : List ℕ) → has_line xs x ≡ false → IsFresh listed (x ∷ xs) → IsFresh (listed ++ x ∷ []) xs
unfolding IsFresh
fresh_more listed x xs missing fresh n has = elim (cases_Bool (eqb x n)) [
  | inl same ↦
      let one : x ≡ n = (Decides-eqb x n).0 same in
      absurd (false≢true (sym missing ∙ (rw (← one) at has)))
  | inr other ↦
      let before : has_line listed n ≡ false = fresh n (rw other has) in
      list_any-append (λ y. eqb y n) listed (x ∷ []) ∙ rw (before, other) refl
]

module _ (tests : Tests) where
  abbrev step : Outcome Checked → ℕ → Outcome Checked
  step so_far line = found_more tests so_far line

  pub closed_all : (c : Checked) → c.clear ≡ false → (xs : List ℕ) → fold step (goes c) xs ≡ goes c
  closed_all c none [] = refl
  closed_all c none (x ∷ xs) = ap (λ a. fold step a xs) (closed tests c none x) ∙ closed_all c none xs

  pub halted_all : (reason : Halt) (xs : List ℕ) → fold step (halts reason) xs ≡ halts reason
  halted_all reason [] = refl
  halted_all reason (x ∷ xs) = halted_all reason xs

  -- of lines of which none is met and open from here on
  nothing_more : (c : Checked) → length c.listed ≤ 8 → nat_lt 8 (length (c.listed ++ [])) ≡ false
  nothing_more c few = let same : length (c.listed ++ []) ≡ length c.listed = ap length (append-nil c.listed) in grind (arith, same, few)

  at_end : (c : Checked) → c.clear ≡ true → length c.listed ≤ 8 → found_from tests c [] ≡ goes c
  at_end c clear few =
      let whole : record c { clear = true } ≡ c = ap (λ (b : Bool). record c { clear = b }) (sym clear) in
      rw (nothing_more c few, append-nil c.listed) (ap goes whole)

  skips : (c : Checked) (x : ℕ) (xs : List ℕ) → tests.met x ≡ false → found_from tests c (x ∷ xs) ≡ found_from tests c xs
  skips c x xs none = rw none refl

  none_open : (x : ℕ) (xs : List ℕ) → tests.met x ≡ true → tests.blocks x ≡ true → open_lines tests (x ∷ xs) ≡ []
  none_open x xs meets blocks = rw meets (take_while-cons (λ i. not (tests.blocks i)) x (filter tests.met xs) ∙ rw blocks refl)

  one_open : (x : ℕ) (xs : List ℕ) → tests.met x ≡ true → tests.blocks x ≡ false → open_lines tests (x ∷ xs) ≡ x ∷ open_lines tests xs
  one_open x xs meets open' = rw meets (take_while-cons (λ i. not (tests.blocks i)) x (filter tests.met xs) ∙ rw open' refl)

  stops_at : (c : Checked) (x : ℕ) (xs : List ℕ) → length c.listed ≤ 8 → tests.met x ≡ true → tests.blocks x ≡ true → found_from tests c (x ∷ xs) ≡ goes (record c { clear = false })
  stops_at c x xs few meets blocks =
      let clear : list_any tests.blocks (filter tests.met (x ∷ xs)) ≡ true = rw (meets, blocks) refl in
      rw (none_open x xs meets blocks, clear, nothing_more c few, append-nil c.listed) refl

  still_clear : (x : ℕ) (xs : List ℕ) → tests.met x ≡ true → tests.blocks x ≡ false → list_any tests.blocks (filter tests.met (x ∷ xs)) ≡ list_any tests.blocks (filter tests.met xs)
  still_clear x xs meets open' = rw (meets, open') refl

  goes_plain : (c : Checked) (x : ℕ) (xs : List ℕ) → tests.met x ≡ true → tests.blocks x ≡ false → tests.special x ≡ false → found_from tests c (x ∷ xs) ≡ found_from tests (narrowed c (tests.gap x)) xs
  goes_plain c x xs meets open' plain = rw (one_open x xs meets open', still_clear x xs meets open', plain) refl

  goes_listed : (c : Checked) (x : ℕ) (xs : List ℕ) → tests.met x ≡ true → tests.blocks x ≡ false → tests.special x ≡ true
      → found_from tests c (x ∷ xs) ≡ found_from tests (record (narrowed c (tests.gap x)) { listed = c.listed ++ x ∷ [] }) xs
  goes_listed c x xs meets open' special =
      let more : (c.listed ++ x ∷ []) ++ filter tests.special (open_lines tests xs) ≡ c.listed ++ (x ∷ filter tests.special (open_lines tests xs)) = append_assoc c.listed (x ∷ []) (filter tests.special (open_lines tests xs)) in
      rw (one_open x xs meets open', still_clear x xs meets open', special, more) refl

  ninth : (c : Checked) (x : ℕ) (xs : List ℕ) → 8 ≤ length c.listed → tests.met x ≡ true → tests.blocks x ≡ false → tests.special x ≡ true → found_from tests c (x ∷ xs) ≡ halts Listed
  ninth c x xs many meets open' special =
      let listed : listed_after tests c.listed (x ∷ xs) ≡ c.listed ++ (x ∷ filter tests.special (open_lines tests xs)) = rw (one_open x xs meets open', special) refl in
      let long : length (listed_after tests c.listed (x ∷ xs)) ≡ length c.listed + length (x ∷ filter tests.special (open_lines tests xs)) = ap length listed ∙ length-append c.listed (x ∷ filter tests.special (open_lines tests xs)) in
      let over : nat_lt 8 (length (listed_after tests c.listed (x ∷ xs))) ≡ true = grind (arith, long, many) in
      rw over refl

  by_list : (xs : List ℕ) (c : Checked) → c.clear ≡ true → length c.listed ≤ 8 → IsOnce xs → IsFresh c.listed xs → fold step (goes c) xs ≡ found_from tests c xs
  unfolding IsOnce IsFresh
  by_list [] c clear few once fresh = sym (at_end c clear few)
  by_list (x ∷ xs) c clear few once fresh = elim (cases_Bool (tests.met x)) [
    | inr none ↦ ap (λ a. fold step a xs) (passed tests x none (goes c)) ∙ by_list xs c clear few once.1 (fresh_rest c.listed x xs fresh) ∙ sym (skips c x xs none)
    | inl meets ↦ elim (cases_Bool (tests.blocks x)) [
      | inl blocks ↦
          let to : Checked = record c { clear = false } in
          let is : step (goes c) x ≡ goes to = rw (clear, meets, blocks) refl in
          ap (λ a. fold step a xs) is ∙ closed_all to refl xs ∙ sym (stops_at c x xs few meets blocks)
      | inr open' ↦ elim (cases_Bool (tests.special x)) [
        | inr plain ↦
            let to : Checked = narrowed c (tests.gap x) in
            let is : step (goes c) x ≡ goes to = rw (clear, meets, open', plain) refl in
            ap (λ a. fold step a xs) is ∙ by_list xs to clear few once.1 (fresh_rest c.listed x xs fresh) ∙ sym (goes_plain c x xs meets open' plain)
        | inl special ↦
            let missing : has_line c.listed x ≡ false = fresh x (rw (same_line x) refl) in
            elim (cases_Bool (nat_lt (length c.listed) 8)) [
              | inl room ↦
                  let to : Checked = record (narrowed c (tests.gap x)) { listed = c.listed ++ x ∷ [] } in
                  let is : step (goes c) x ≡ goes to = rw (clear, meets, open', special, missing, room) refl in
                  let below : length c.listed < 8 = search (arith, room) in
                  let few' : length (c.listed ++ x ∷ []) ≤ 8 = omega (arith, length-append c.listed (x ∷ []), below) in
                  ap (λ a. fold step a xs) is ∙ by_list xs to clear few' once.1 (fresh_more c.listed x xs once.0 fresh) ∙ sym (goes_listed c x xs meets open' special)
              | inr full ↦
                  let is : step (goes c) x ≡ halts Listed = rw (clear, meets, open', special, missing, full) refl in
                  let many : 8 ≤ length c.listed = search (arith, full) in
                  ap (λ a. fold step a xs) is ∙ halted_all Listed xs ∙ sym (ninth c x xs many meets open' special)
            ]
      ]
    ]
  ]

  -- the lines without repeats give what they give with them
  pub near_gives : (level : Lists) (blocks : List Block) (c : Checked) → fold step (goes c) (near level blocks) ≡ fold step (goes c) (near_all level blocks)
  near_gives level blocks c = fold_near step (takes_once tests) level blocks (goes c)

  -- the lines of a run of blocks
  pub lines_are : (level : Lists) (blocks : List Block) (c : Checked) → c.clear ≡ true → c.listed ≡ [] → fold step (goes c) (near_all level blocks) ≡ found_from tests c (near level blocks)
  unfolding IsFresh
  lines_are level blocks c clear none =
      let few : length c.listed ≤ 8 = omega (arith, ap length none) in
      let fresh : IsFresh c.listed (near level blocks) = λ n has. rw none refl in
      sym (near_gives level blocks c) ∙ by_list (near level blocks) c clear few (once_first_ones (near_all level blocks)) fresh

  -- ---- a loop over lines: what is left, from what was found so far, gives what the whole gives

  pub line_next : (whole : Outcome Checked) (c next : Checked) (x : ℕ) (left rest : List ℕ) → fold step (goes c) left ≡ whole → left ≡ x ∷ rest → c.clear ≡ true → found_one tests c x ≡ goes next → fold step (goes next) rest ≡ whole
  line_next whole c next x left rest so_far is clear found =
      let one : step (goes c) x ≡ goes next = ap (λ b. if b then found_one tests c x else goes c) clear ∙ found in
      sym (ap (λ a. fold step a rest) one) ∙ (rw is at so_far)

  pub line_halts : (whole : Outcome Checked) (c : Checked) (x : ℕ) (left rest : List ℕ) → fold step (goes c) left ≡ whole → left ≡ x ∷ rest → c.clear ≡ true → (reason : Halt) → found_one tests c x ≡ halts reason → whole ≡ halts reason
  line_halts whole c x left rest so_far is clear reason found =
      let one : step (goes c) x ≡ halts reason = ap (λ b. if b then found_one tests c x else goes c) clear ∙ found in
      sym (rw is at so_far) ∙ ap (λ a. fold step a rest) one ∙ halted_all reason rest

  pub line_closed : (whole : Outcome Checked) (c : Checked) (left : List ℕ) → fold step (goes c) left ≡ whole → c.clear ≡ false → whole ≡ goes c
  line_closed whole c left so_far none = sym so_far ∙ closed_all c none left

  pub line_end : (whole : Outcome Checked) (c : Checked) (left : List ℕ) → fold step (goes c) left ≡ whole → left ≡ [] → whole ≡ goes c
  line_end whole c left so_far none = sym (rw none at so_far)

-- the lines of a trial's box give what is found there
pub found_all : (level : Lists) (world : Gridded) (trial : Trial) (area : Area) (from : Checked) → area ≡ box_of trial → from ≡ between true (ground_of level world trial)
    → fold (found_more (line_tests level world trial.player area)) (goes from) (near_all level (blocks_in (blocks_of level area))) ≡ lines_found level world trial
found_all level world trial area from box start =
    let all = lines_are (line_tests level world trial.player (box_of trial)) level (blocks_in (blocks_of level (box_of trial))) (between true (ground_of level world trial)) refl refl in
    rw (box, start) all

-- ---- the lines that are listed are there

pub listed_there : {D : Type 0} (r : Result D PlayFault) (P : ℕ → Type 0) (c new : Checked) (line : ℕ) → P line → All P c.listed → Moves r new (listed_one true c line) → OnOk r (All P new.listed)
listed_there (Err fault) P c new line it before moves = tt
listed_there (Ok done) P c new line it before moves = elim (cases_Bool (has_line c.listed line)) [
  | inl has ↦
      let same : goes c ≡ goes new = rw has at moves in
      let one : c ≡ new = cc in
      subst (λ (f : Checked). All P f.listed) one before
  | inr missing ↦ elim (cases_Bool (nat_lt (length c.listed) 8)) [
    | inl room ↦
        let to : Checked = record c { listed = c.listed ++ line ∷ [] } in
        let same : goes to ≡ goes new = rw (missing, room) at moves in
        let one : to ≡ new = cc in
        subst (λ (f : Checked). All P f.listed) one (All-append P c.listed (line ∷ []) before (All-cons P line [] it (All-nil P)))
    | inr full ↦
        let none : halts Listed ≡ goes new = rw (missing, full) at moves in
        absurd cc
  ]
]
