-- Things that are met one after the other.
use Rattle.std.proofs.Common.{◌≡◌, ℕ, ◌+◌, ◌<◌, Bool, true, false, List, [], ◌∷◌, length, get_or, drop, refl, sym, ap, ◌∙◌, inl, inr, add-one}
use Rattle.std.specs.Prelude.{if◌then◌else◌}
use Rattle.std.proofs.lemmas.Bool.{cases_Bool, false≢true}
use Rattle.std.proofs.Math.Seq.{drop-cons}
use Rattle.fixed_angle.specs.Tables.{Tables}
use Rattle.map_geometry.specs.Lists.{Lists}
use Rattle.cow_world.specs.Flat.{Gridded}
use Rattle.cow_world.specs.Shapes.{shape_of}
use Rattle.cow_world.specs.Fits.{Fits}
use Rattle.clip_check.specs.declared.trial.Trial.{Trial}
use Rattle.clip_check.specs.Aside.{TouchesOnly}
use Rattle.clip_check.specs.Touches.{touch_of}
use Rattle.clip_check.specs.Things.{is_met, is_touched, is_in_the_way, meeting_of, things_met, met_one}
use Rattle.clip_check.proofs.Asides.{aside_same, aside_two}

-- ---- for any tests

module _ (touch : Gridded → ℕ → Gridded) (met touched blocks : ℕ → Bool) where
  abbrev one_touched : Gridded → ℕ → Gridded
  one_touched world x = if touched x then touch world x else world

  abbrev one : Gridded → ℕ → Gridded × Bool
  one world x = if met x then (one_touched world x, blocks x) else (world, false)

  abbrev all : Gridded → List ℕ → Gridded × Bool
  all world near = meeting_of touch met touched blocks world near

  goes_on : (now next : Gridded) (x : ℕ) (rest : List ℕ) → (next, false) ≡ one now x → all now (x ∷ rest) ≡ all next rest
  goes_on now next x rest is = elim (cases_Bool (met x)) [
    | inr passed ↦
        let same : (next, false) ≡ (now, false) = rw passed at is in
        let next-is : next ≡ now = ap (λ (p : Gridded × Bool). p.0) same in
        rw (passed, next-is) refl
    | inl meets ↦
        let same : (next, false) ≡ (one_touched now x, blocks x) = rw meets at is in
        let next-is : next ≡ one_touched now x = ap (λ (p : Gridded × Bool). p.0) same in
        let open' : blocks x ≡ false = sym (ap (λ (p : Gridded × Bool). p.1) same) in
        elim (cases_Bool (touched x)) [
          | inl special ↦ let to : next ≡ touch now x = rw special at next-is in rw (meets, open', special, to) refl
          | inr plain ↦ let to : next ≡ now = rw plain at next-is in rw (meets, open', plain, to) refl
        ]
  ]

  ends_here : (now next : Gridded) (x : ℕ) (rest : List ℕ) → (next, true) ≡ one now x → all now (x ∷ rest) ≡ (next, true)
  ends_here now next x rest is = elim (cases_Bool (met x)) [
    | inr passed ↦
        let same : (next, true) ≡ (now, false) = rw passed at is in
        absurd (false≢true (sym (ap (λ (p : Gridded × Bool). p.1) same)))
    | inl meets ↦
        let same : (next, true) ≡ (one_touched now x, blocks x) = rw meets at is in
        let next-is : next ≡ one_touched now x = ap (λ (p : Gridded × Bool). p.0) same in
        let solid : blocks x ≡ true = sym (ap (λ (p : Gridded × Bool). p.1) same) in
        elim (cases_Bool (touched x)) [
          | inl special ↦ let to : next ≡ touch now x = rw special at next-is in rw (meets, solid, special, to) refl
          | inr plain ↦ let to : next ≡ now = rw plain at next-is in rw (meets, solid, plain, to) refl
        ]
  ]

-- ---- a touch changes none of the tests

shape_same : (tables : Tables) (old new : Gridded) → TouchesOnly old new → (other : ℕ) → shape_of tables new other ≡ shape_of tables old other
shape_same tables old new aside other = rw (aside.player, aside.kinds other) refl

met_same : (tables : Tables) (old new : Gridded) → TouchesOnly old new → (trial : Trial) (other : ℕ) → is_met tables new trial other ≡ is_met tables old trial other
met_same tables old new aside trial other = rw (shape_same tables old new aside other, aside.xs other, aside.ys other) refl

touched_same : (tables : Tables) (old new : Gridded) → TouchesOnly old new → (trial : Trial) (other : ℕ) → is_touched tables new trial other ≡ is_touched tables old trial other
touched_same tables old new aside trial other = rw (shape_same tables old new aside other) refl

way_same : (tables : Tables) (old new : Gridded) → TouchesOnly old new → (other : ℕ) → is_in_the_way tables new other ≡ is_in_the_way tables old other
way_same tables old new aside other = rw (shape_same tables old new aside other) refl

one_same : (level : Lists) (tables : Tables) (old new : Gridded) → TouchesOnly old new → (trial : Trial) (other : ℕ)
    → met_one level tables new trial other ≡ one (touch_of level) (is_met tables old trial) (is_touched tables old trial) (is_in_the_way tables old) new other
one_same level tables old new aside trial other =
    rw (met_same tables old new aside trial other, touched_same tables old new aside trial other, way_same tables old new aside other) refl

-- ---- a loop over things that are near

pub drop_first : (xs : List ℕ) (i : ℕ) → i < length xs → drop i xs ≡ get_or xs i 0 ∷ drop (i + 1) xs
drop_first xs i below = rw (add-one, drop-cons xs i 0) refl

-- the things that are left, from the world as it is, give what all give from the first; and the world fits
pub record Met (level : Lists) (tables : Tables) (trial : Trial) (near : List ℕ) (old now : Gridded) (rest : List ℕ) : Type 0 where
  pub left : meeting_of (touch_of level) (is_met tables old trial) (is_touched tables old trial) (is_in_the_way tables old) now rest ≡ things_met level tables old trial near
  pub aside : TouchesOnly old now
  pub fits : Fits level tables now

pub met_first : (level : Lists) (tables : Tables) (trial : Trial) (near : List ℕ) (old : Gridded) → Fits level tables old → Met level tables trial near old old near
met_first level tables trial near old fits = record { left = refl; aside = aside_same old; fits = fits }

pub met_next : (level : Lists) (tables : Tables) (trial : Trial) (near : List ℕ) (old now next : Gridded) (x : ℕ) (rest : List ℕ)
    → Met level tables trial near old now (x ∷ rest) → (next, false) ≡ met_one level tables now trial x → TouchesOnly now next → Fits level tables next → Met level tables trial near old next rest
met_next level tables trial near old now next x rest met is aside fits = record {
  left = sym (goes_on (touch_of level) (is_met tables old trial) (is_touched tables old trial) (is_in_the_way tables old) now next x rest (is ∙ one_same level tables old now met.aside trial x)) ∙ met.left;
  aside = aside_two old now next met.aside aside;
  fits = fits;
}

pub met_last : (level : Lists) (tables : Tables) (trial : Trial) (near : List ℕ) (old now next : Gridded) (x : ℕ) (rest : List ℕ)
    → Met level tables trial near old now (x ∷ rest) → (next, true) ≡ met_one level tables now trial x → (next, true) ≡ things_met level tables old trial near
met_last level tables trial near old now next x rest met is =
    sym (ends_here (touch_of level) (is_met tables old trial) (is_touched tables old trial) (is_in_the_way tables old) now next x rest (is ∙ one_same level tables old now met.aside trial x)) ∙ met.left

pub met_all : (level : Lists) (tables : Tables) (trial : Trial) (near : List ℕ) (old now : Gridded) → Met level tables trial near old now [] → (now, false) ≡ things_met level tables old trial near
met_all level tables trial near old now met = met.left
