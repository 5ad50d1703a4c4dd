-- A line that comes again changes nothing of what was found.
use Rattle.std.proofs.Common.{◌≡◌, ℕ, Bool, true, false, ◌||◌, eqb, ℤ, List, [], ◌∷◌, ◌++◌, length, refl, sym, ap, ◌∙◌, inl, inr, arith, length-append}
use Rattle.std.specs.Prelude.{nat_lt}
use Rattle.std.specs.Int.{int_max, int_min}
use Rattle.std.proofs.lemmas.Bool.{cases_Bool, false≢true}
use Rattle.std.proofs.lemmas.Bool.Decides.{Decides-eqb}
use Rattle.std.proofs.lemmas.Int.{ints}
use Rattle.std.proofs.lemmas.List.Folds.{list_any-append}
use Rattle.game_trait.specs.declared.shown.Halt.TheVariants.{Listed}
use Rattle.cow_world.specs.declared.gaps.Gap.{Gap}
use Rattle.cow_world.specs.Outcome.{Outcome, goes, halts}
use Rattle.block_walk.proofs.Repeats.{TakesOnce}
use Rattle.clip_check.specs.declared.trial.Checked.{Checked}
use Rattle.clip_check.specs.Lines.{Tests, narrowed, has_line, found_more}

-- ---- greatest and least

max_again : (a b : ℤ) → int_max (int_max a b) b ≡ int_max a b
max_again a b = grind (arith, ints)

min_again : (a b : ℤ) → int_min (int_min a b) b ≡ int_min a b
min_again a b = grind (arith, ints)

max_later : (a b d : ℤ) → int_max a b ≡ a → int_max (int_max a d) b ≡ int_max a d
max_later a b d same = grind (arith, ints, same)

min_later : (a b d : ℤ) → int_min a b ≡ a → int_min (int_min a d) b ≡ int_min a d
min_later a b d same = grind (arith, ints, same)

narrow_again : (c : Checked) (g : Gap) → narrowed (narrowed c g) g ≡ narrowed c g
narrow_again c g = rw (max_again c.floor g.bottom, min_again c.ceiling g.top, min_again c.dropoff g.low) refl

narrow_later : (c : Checked) (g h : Gap) → narrowed c g ≡ c → narrowed (narrowed c h) g ≡ narrowed c h
narrow_later c g h same =
    let floor : int_max c.floor g.bottom ≡ c.floor = ap (λ (f : Checked). f.floor) same in
    let ceiling : int_min c.ceiling g.top ≡ c.ceiling = ap (λ (f : Checked). f.ceiling) same in
    let dropoff : int_min c.dropoff g.low ≡ c.dropoff = ap (λ (f : Checked). f.dropoff) same in
    rw (max_later c.floor g.bottom h.bottom floor, min_later c.ceiling g.top h.top ceiling, min_later c.dropoff g.low h.low dropoff) refl

-- ---- listed lines

pub same_line : (x : ℕ) → eqb x x ≡ true
same_line x = (Decides-eqb x x).1 refl

or_right : (a : Bool) → (a || true) ≡ true
or_right true = refl
or_right false = refl

pub has_last : (xs : List ℕ) (x : ℕ) → has_line (xs ++ x ∷ []) x ≡ true
has_last xs x = list_any-append (λ other. eqb other x) xs (x ∷ []) ∙ rw (same_line x) (or_right (has_line xs x))

pub has_more : (xs ys : List ℕ) (x : ℕ) → has_line xs x ≡ true → has_line (xs ++ ys) x ≡ true
has_more xs ys x has = list_any-append (λ other. eqb other x) xs ys ∙ rw has refl

no_longer : (xs : List ℕ) (x : ℕ) → xs ++ x ∷ [] ≡ xs → ⊥
no_longer xs x same = omega (arith, ap length same, length-append xs (x ∷ []))

module _ (tests : Tests) where
  abbrev step : Outcome Checked → ℕ → Outcome Checked
  step so_far line = found_more tests so_far line

  -- a line was taken: once more it changes nothing
  record Taken (c : Checked) (x : ℕ) : Type 0 where
    clear : c.clear ≡ true
    meets : tests.met x ≡ true
    open' : tests.blocks x ≡ false
    narrow : narrowed c (tests.gap x) ≡ c
    listed : tests.special x ≡ true → has_line c.listed x ≡ true

  taken_step : (c : Checked) (x : ℕ) → Taken c x → step (goes c) x ≡ goes c
  taken_step c x taken = elim (cases_Bool (tests.special x)) [
    | inl special ↦
        let has = taken.listed special in
        let is : step (goes c) x ≡ goes (narrowed c (tests.gap x)) = rw (taken.clear, taken.meets, taken.open', special, has) refl in
        is ∙ ap goes taken.narrow
    | inr plain ↦
        let is : step (goes c) x ≡ goes (narrowed c (tests.gap x)) = rw (taken.clear, taken.meets, taken.open', plain) refl in
        is ∙ ap goes taken.narrow
  ]

  -- a line that is passed changes nothing
  pub passed : (x : ℕ) → tests.met x ≡ false → (so_far : Outcome Checked) → step so_far x ≡ so_far
  passed x none (halts reason) = refl
  passed x none (goes c) = elim (cases_Bool c.clear) [
    | inl clear ↦ rw (clear, none) refl
    | inr closed ↦ rw closed refl
  ]

  -- nothing changes behind a line that blocks
  pub closed : (c : Checked) → c.clear ≡ false → (x : ℕ) → step (goes c) x ≡ goes c
  closed c none x = rw none refl

  -- a line that was met and changes nothing was taken
  from_same : (c : Checked) (x : ℕ) → c.clear ≡ true → tests.met x ≡ true → step (goes c) x ≡ goes c → Taken c x
  from_same c x clear meets same = elim (cases_Bool (tests.blocks x)) [
    | inl blocks ↦
        let is : step (goes c) x ≡ goes (record c { clear = false }) = rw (clear, meets, blocks) refl in
        let one : goes (record c { clear = false }) ≡ goes c = sym is ∙ same in
        let it : record c { clear = false } ≡ c = cc in
        absurd (false≢true (ap (λ (f : Checked). f.clear) it ∙ clear))
    | inr open' ↦ elim (cases_Bool (tests.special x)) [
      | inr plain ↦
          let is : step (goes c) x ≡ goes (narrowed c (tests.gap x)) = rw (clear, meets, open', plain) refl in
          let one : goes (narrowed c (tests.gap x)) ≡ goes c = sym is ∙ same in
          let narrow : narrowed c (tests.gap x) ≡ c = cc in
          record { clear = clear; meets = meets; open' = open'; narrow = narrow; listed = λ special. absurd (false≢true (sym plain ∙ special)) }
      | inl special ↦ elim (cases_Bool (has_line c.listed x)) [
        | inl has ↦
            let is : step (goes c) x ≡ goes (narrowed c (tests.gap x)) = rw (clear, meets, open', special, has) refl in
            let one : goes (narrowed c (tests.gap x)) ≡ goes c = sym is ∙ same in
            let narrow : narrowed c (tests.gap x) ≡ c = cc in
            record { clear = clear; meets = meets; open' = open'; narrow = narrow; listed = λ _. has }
        | inr missing ↦ elim (cases_Bool (nat_lt (length c.listed) 8)) [
          | inl room ↦
              let to : Checked = record (narrowed c (tests.gap x)) { listed = c.listed ++ x ∷ [] } in
              let is : step (goes c) x ≡ goes to = rw (clear, meets, open', special, missing, room) refl in
              let one : goes to ≡ goes c = sym is ∙ same in
              let it : to ≡ c = cc in
              absurd (no_longer c.listed x (ap (λ (f : Checked). f.listed) it))
          | inr full ↦
              let is : step (goes c) x ≡ halts Listed = rw (clear, meets, open', special, missing, full) refl in
              let one : halts Listed ≡ goes c = sym is ∙ same in
              absurd cc
        ]
      ]
    ]
  ]

  -- it stays taken
  taken_narrowed : (c : Checked) (x : ℕ) (g : Gap) → Taken c x → Taken (narrowed c g) x
  taken_narrowed c x g taken = record { clear = taken.clear; meets = taken.meets; open' = taken.open'; narrow = narrow_later c (tests.gap x) g taken.narrow; listed = taken.listed }

  taken_listed : (c : Checked) (x y : ℕ) → Taken c x → Taken (record c { listed = c.listed ++ y ∷ [] }) x
  taken_listed c x y taken = record {
    clear = taken.clear;
    meets = taken.meets;
    open' = taken.open';
    narrow = ap (λ (f : Checked). record f { listed = c.listed ++ y ∷ [] }) taken.narrow;
    listed = λ special. has_more c.listed (y ∷ []) x (taken.listed special);
  }

  -- so a line leaves either a world behind which nothing comes, or one in which another line stays taken
  later_of : (c : Checked) (x y : ℕ) → Taken c x → step (step (goes c) y) x ≡ step (goes c) y
  later_of c x y taken = elim (cases_Bool (tests.met y)) [
    | inr none ↦ ap (λ a. step a x) (passed y none (goes c)) ∙ taken_step c x taken ∙ sym (passed y none (goes c))
    | inl meets ↦ elim (cases_Bool (tests.blocks y)) [
      | inl blocks ↦
          let is : step (goes c) y ≡ goes (record c { clear = false }) = rw (taken.clear, meets, blocks) refl in
          ap (λ a. step a x) is ∙ sym is
      | inr open' ↦
          let to : Checked = narrowed c (tests.gap y) in
          let stays : Taken to x = taken_narrowed c x (tests.gap y) taken in
          elim (cases_Bool (tests.special y)) [
            | inr plain ↦
                let is : step (goes c) y ≡ goes to = rw (taken.clear, meets, open', plain) refl in
                ap (λ a. step a x) is ∙ taken_step to x stays ∙ sym is
            | inl special ↦ elim (cases_Bool (has_line c.listed y)) [
              | inl has ↦
                  let is : step (goes c) y ≡ goes to = rw (taken.clear, meets, open', special, has) refl in
                  ap (λ a. step a x) is ∙ taken_step to x stays ∙ sym is
              | inr missing ↦ elim (cases_Bool (nat_lt (length c.listed) 8)) [
                | inl room ↦
                    let more : Checked = record to { listed = c.listed ++ y ∷ [] } in
                    let is : step (goes c) y ≡ goes more = rw (taken.clear, meets, open', special, missing, room) refl in
                    ap (λ a. step a x) is ∙ taken_step more x (taken_listed to x y stays) ∙ sym is
                | inr full ↦
                    let is : step (goes c) y ≡ halts Listed = rw (taken.clear, meets, open', special, missing, full) refl in
                    ap (λ a. step a x) is ∙ sym is
              ]
            ]
          ]
    ]
  ]

  later : (so_far : Outcome Checked) (x y : ℕ) → step so_far x ≡ so_far → step (step so_far y) x ≡ step so_far y
  later (halts reason) x y same = refl
  later (goes c) x y same = elim (cases_Bool c.clear) [
    | inr none ↦ ap (λ a. step a x) (closed c none y) ∙ closed c none x ∙ sym (closed c none y)
    | inl clear ↦ elim (cases_Bool (tests.met x)) [
      | inr none ↦ passed x none (step (goes c) y)
      | inl meets ↦ later_of c x y (from_same c x clear meets same)
    ]
  ]

  again_of : (c : Checked) (x : ℕ) → c.clear ≡ true → tests.met x ≡ true → tests.blocks x ≡ false → step (step (goes c) x) x ≡ step (goes c) x
  again_of c x clear meets open' =
      let to : Checked = narrowed c (tests.gap x) in
      elim (cases_Bool (tests.special x)) [
        | inr plain ↦
            let is : step (goes c) x ≡ goes to = rw (clear, meets, open', plain) refl in
            let taken : Taken to x = record { clear = clear; meets = meets; open' = open'; narrow = narrow_again c (tests.gap x); listed = λ special. absurd (false≢true (sym plain ∙ special)) } in
            ap (λ a. step a x) is ∙ taken_step to x taken ∙ sym is
        | inl special ↦ elim (cases_Bool (has_line c.listed x)) [
          | inl has ↦
              let is : step (goes c) x ≡ goes to = rw (clear, meets, open', special, has) refl in
              let taken : Taken to x = record { clear = clear; meets = meets; open' = open'; narrow = narrow_again c (tests.gap x); listed = λ _. has } in
              ap (λ a. step a x) is ∙ taken_step to x taken ∙ sym is
          | inr missing ↦ elim (cases_Bool (nat_lt (length c.listed) 8)) [
            | inl room ↦
                let more : Checked = record to { listed = c.listed ++ x ∷ [] } in
                let is : step (goes c) x ≡ goes more = rw (clear, meets, open', special, missing, room) refl in
                let taken : Taken more x = record {
                  clear = clear;
                  meets = meets;
                  open' = open';
                  narrow = ap (λ (f : Checked). record f { listed = c.listed ++ x ∷ [] }) (narrow_again c (tests.gap x));
                  listed = λ _. has_last c.listed x;
                } in
                ap (λ a. step a x) is ∙ taken_step more x taken ∙ sym is
            | inr full ↦
                let is : step (goes c) x ≡ halts Listed = rw (clear, meets, open', special, missing, full) refl in
                ap (λ a. step a x) is ∙ sym is
          ]
        ]
      ]

  again : (so_far : Outcome Checked) (x : ℕ) → step (step so_far x) x ≡ step so_far x
  again (halts reason) x = refl
  again (goes c) x = elim (cases_Bool c.clear) [
    | inr none ↦ ap (λ a. step a x) (closed c none x)
    | inl clear ↦ elim (cases_Bool (tests.met x)) [
      | inr none ↦ passed x none (step (goes c) x)
      | inl meets ↦ elim (cases_Bool (tests.blocks x)) [
        | inl blocks ↦
            let is : step (goes c) x ≡ goes (record c { clear = false }) = rw (clear, meets, blocks) refl in
            ap (λ a. step a x) is ∙ sym is
        | inr open' ↦ again_of c x clear meets open'
      ]
    ]
  ]

  pub takes_once : TakesOnce step
  takes_once = record { again = again; later = later }
