-- The first exit of the first sector that has one, thing by thing from the last to the first.
use Rattle.std.proofs.Common.{◌≡◌, ◌≢◌, ◌==◌, ℕ, suc, zero, ◌+◌, ◌-◌, ◌<◌, ◌≤◌, Bool, true, false, cond, IsTrue, ℤ, List, [], ◌∷◌, length, Option, Some, None, refl, sym, ap, ◌∙◌, inl, inr, arith}
use Rattle.std.specs.Prelude.{filter, nat_lt, not, ◌&&◌}
use Rattle.std.specs.List.{range_with_len}
use Rattle.std.specs.Ordering.{int_eq}
use Rattle.std.proofs.lemmas.Bool.{cases_Bool, cases_eq, lt-ltb, le-ltb, eq-eqb, ne_eqb, and_right}
use Rattle.map_geometry.specs.Lists.{Lists, nth_sector}
use Rattle.map_geometry.specs.Sectors.{sectors_with_tag}
use Rattle.cow_world.specs.Flat.{Gridded, parts}
use Rattle.line_specials.specs.Teleports.{is_marker, exit_among, with_sector, first_exit, exit_of, is_before, sector_under, exit_with}

-- ---- by any two choices of exits, the second of which has one more

-- two choices that agree in the sectors with the tag lead to the same exit
same_exit : (f g : ℕ → Option ℕ) (has : ℕ → Bool) → ((s : ℕ) → has s ≡ true → g s ≡ f s) → (i n : ℕ) → first_exit g (filter has (range_with_len i n)) ≡ first_exit f (filter has (range_with_len i n))
same_exit f g has same i zero = refl
same_exit f g has same i (suc n) = elim (cases_Bool (has i)) [
  | inl tagged ↦ rw (tagged, same i tagged) (ap (with_sector i (f i)) (same_exit f g has same (i + 1) n))
  | inr other ↦ rw other (same_exit f g has same (i + 1) n)
]

-- an exit in sectors from number i on lies in no earlier one
none_before : (f : ℕ → Option ℕ) (has : ℕ → Bool) (q i n : ℕ) → q ≤ i → is_before (first_exit f (filter has (range_with_len i n))) q ≡ false
none_before f has q i zero low = refl
none_before f has q i (suc n) low = elim (cases_Bool (has i)) [
  | inl tagged ↦ rw tagged (on_choice (f i) (none_before f has q (i + 1) n (omega arith)))
  | inr other ↦ rw other (none_before f has q (i + 1) n (omega arith))
]
  where
    on_choice : (choice : Option ℕ) → is_before (first_exit f (filter has (range_with_len (i + 1) n))) q ≡ false → is_before (with_sector i choice (first_exit f (filter has (range_with_len (i + 1) n)))) q ≡ false
    on_choice None rest = rest
    on_choice (Some thing) rest = le-ltb i q low

-- what a sector's exit does to the exit so far
abbrev kept_or : Option (ℕ × ℕ) → ℕ → ℕ → Option (ℕ × ℕ)
kept_or exit q thing = cond (is_before exit q) exit (Some (q, thing))

one_more : (f g : ℕ → Option ℕ) (has : ℕ → Bool) (q thing : ℕ) → has q ≡ true → g q ≡ Some thing → ((s : ℕ) → s ≢ q → g s ≡ f s) → (i n : ℕ) → i ≤ q → q < i + n → first_exit g (filter has (range_with_len i n)) ≡ kept_or (first_exit f (filter has (range_with_len i n))) q thing
one_more f g has q thing tagged here same i zero low high = absurd (omega arith)
one_more f g has q thing tagged here same i (suc n) low high = elim (cases_eq i q) [
  | inl is ↦
      let at : has i ≡ true = rw is tagged in
      let given : g i ≡ Some thing = rw is here in
      let before : is_before (first_exit f (filter has (range_with_len i (suc n)))) q ≡ false = none_before f has q i (suc n) (omega arith) in
      rw before (rw (at, given) (rw is refl))
  | inr differs ↦ elim (cases_Bool (has i)) [
    | inl at ↦
        let earlier : nat_lt i q ≡ true = lt-ltb i q (omega arith) in
        rw (at, same i differs) (on_choice earlier (f i) (one_more f g has q thing tagged here same (i + 1) n (omega arith) (omega arith)))
    | inr other ↦ rw other (one_more f g has q thing tagged here same (i + 1) n (omega arith) (omega arith))
  ]
]
  where
    on_choice : nat_lt i q ≡ true → (choice : Option ℕ) → first_exit g (filter has (range_with_len (i + 1) n)) ≡ kept_or (first_exit f (filter has (range_with_len (i + 1) n))) q thing
        → with_sector i choice (first_exit g (filter has (range_with_len (i + 1) n))) ≡ kept_or (with_sector i choice (first_exit f (filter has (range_with_len (i + 1) n)))) q thing
    on_choice earlier None rest = rest
    on_choice earlier (Some other) rest = rw earlier refl

-- ---- thing by thing

-- another sector's number
apart : (has : ℕ → Bool) (s q : ℕ) → has s ≡ true → has q ≡ false → s ≢ q
apart has s q tagged untagged same =
    let both : true ≡ false = sym tagged ∙ (ap has same ∙ untagged) in
    absurd cc

-- what is no exit is passed
passed : (level : Lists) (world : Gridded) (thing many s : ℕ) → is_marker world thing ≡ false → exit_among level world thing (suc many) s ≡ exit_among level world (thing + 1) many s
passed level world thing many s other = rw other refl

-- and so is one of another sector
elsewhere : (level : Lists) (world : Gridded) (thing many s : ℕ) → s ≢ sector_under level world thing → exit_among level world thing (suc many) s ≡ exit_among level world (thing + 1) many s
elsewhere level world thing many s differs =
    let other : (sector_under level world thing == s) ≡ false = ne_eqb (sector_under level world thing) s (λ same. differs (sym same)) in
    rw (and_right (is_marker world thing) (sector_under level world thing == s) other) refl

-- an exit is found in its sector
found : (level : Lists) (world : Gridded) (thing many : ℕ) → is_marker world thing ≡ true → exit_among level world thing (suc many) (sector_under level world thing) ≡ Some thing
found level world thing many marker = rw (marker, eq-eqb (sector_under level world thing) (sector_under level world thing) refl) refl

-- the same choice, asked the other way round
turned : {X : Type 0} (test : Bool) (x y : X) → cond test x y ≡ cond (not test) y x
turned true x y = refl
turned false x y = refl

-- one thing more, from the last to the first: the exit of those from it on
pub exit_next : (level : Lists) (world : Gridded) (tag : ℤ) (thing many : ℕ) → (IsTrue (is_marker world thing) → sector_under level world thing < length level.sectors)
    → first_exit (exit_among level world thing (suc many)) (sectors_with_tag level tag) ≡ exit_with level world tag (first_exit (exit_among level world (thing + 1) many) (sectors_with_tag level tag)) thing
exit_next level world tag thing many within =
    let f : ℕ → Option ℕ = exit_among level world (thing + 1) many in
    let g : ℕ → Option ℕ = exit_among level world thing (suc many) in
    let has : ℕ → Bool = λ i. int_eq (nth_sector level i).tag tag in
    let q : ℕ = sector_under level world thing in
    let old : Option (ℕ × ℕ) = first_exit f (sectors_with_tag level tag) in
    elim (cases_Bool (is_marker world thing)) [
      | inr other ↦ same_exit f g has (λ s tagged. passed level world thing many s other) 0 (length level.sectors) ∙ sym (kept_at (is_marker world thing) _ old (Some (q, thing)) other)
      | inl marker ↦ elim (cases_Bool (has q)) [
        | inr untagged ↦
            same_exit f g has (λ s tagged. elsewhere level world thing many s (apart has s q tagged untagged)) 0 (length level.sectors)
            ∙ sym (kept_two (is_marker world thing) (has q) (not (is_before old q)) old (Some (q, thing)) untagged)
        | inl tagged ↦
            one_more f g has q thing tagged (found level world thing many marker) (λ s differs. elsewhere level world thing many s differs) 0 (length level.sectors) (omega arith) (omega (arith, within marker))
            ∙ (turned (is_before old q) old (Some (q, thing)) ∙ sym (taken_at (is_marker world thing) (has q) (not (is_before old q)) old (Some (q, thing)) marker tagged))
      ]
    ]
  where
    kept_at : (a b : Bool) (old new : Option (ℕ × ℕ)) → a ≡ false → cond (a && b) new old ≡ old
    kept_at a b old new off = rw off refl

    kept_two : (a b c : Bool) (old new : Option (ℕ × ℕ)) → b ≡ false → cond (a && (b && c)) new old ≡ old
    kept_two true b c old new off = rw off refl
    kept_two false b c old new off = refl

    taken_at : (a b c : Bool) (old new : Option (ℕ × ℕ)) → a ≡ true → b ≡ true → cond (a && (b && c)) new old ≡ cond c new old
    taken_at a b c old new first second = rw (first, second) refl

-- ---- the loop

-- the exit of the things from this one on, and that they are as many as are left
pub record Led (level : Lists) (world : Gridded) (tag : ℤ) (exit : Option (ℕ × ℕ)) (thing : ℕ) : Type 0 where
  pub left : exit ≡ first_exit (exit_among level world thing (length (parts world).things - thing)) (sectors_with_tag level tag)
  pub within : thing ≤ length (parts world).things

pub led_first : (level : Lists) (world : Gridded) (tag : ℤ) (count : ℕ) → count ≡ length (parts world).things → Led level world tag None count
led_first level world tag count is =
    let none : length (parts world).things - count ≡ 0 = omega arith in
    record { left = rw none (sym (no_exit (sectors_with_tag level tag))); within = omega arith }
  where
    no_exit : (sectors : List ℕ) → first_exit (exit_among level world count 0) sectors ≡ None
    no_exit [] = refl
    no_exit (sector ∷ sectors) = no_exit sectors

pub led_next : (level : Lists) (world : Gridded) (tag : ℤ) (old new : Option (ℕ × ℕ)) (later thing : ℕ) → Led level world tag old later → later ≡ thing + 1 → (IsTrue (is_marker world thing) → sector_under level world thing < length level.sectors)
    → new ≡ exit_with level world tag old thing → Led level world tag new thing
led_next level world tag old new later thing led next within is =
    let more : length (parts world).things - thing ≡ suc (length (parts world).things - (thing + 1)) = omega (arith, led.within) in
    let then : old ≡ first_exit (exit_among level world (thing + 1) (length (parts world).things - (thing + 1))) (sectors_with_tag level tag) = rw (← next) led.left in
    record {
      left = rw (more, is, then) (sym (exit_next level world tag thing (length (parts world).things - (thing + 1)) within));
      within = omega (arith, led.within);
    }

pub led_all : (level : Lists) (world : Gridded) (tag : ℤ) (exit : Option (ℕ × ℕ)) → Led level world tag exit 0 → exit ≡ exit_of level world tag
unfolding exit_of
led_all level world tag exit led =
    let all : length (parts world).things - 0 ≡ length (parts world).things = omega arith in
    rw all at led.left
