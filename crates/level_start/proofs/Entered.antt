-- The things of the map, spawned one after the other.
use Rattle.std.proofs.Common.{◌≡◌, ℕ, suc, ◌+◌, ◌-◌, ◌<◌, ◌||◌, Bool, true, false, [], ◌∷◌, ◌++◌, length, map, Option, None, Some, refl, sym, ap, ◌∙◌, arith}
use Rattle.std.specs.Prelude.{fold, slice_get}
use Rattle.std.specs.List.{range_with_len, list_any, filter_map}
use Rattle.std.proofs.lemmas.List.Folds.{list_any-append}
use Rattle.std.proofs.lemmas.List.FromFn.{map-range_with_len_more}
use Rattle.fixed_angle.specs.Tables.{Tables}
use Rattle.map_geometry.specs.Lists.{Lists}
use Rattle.cow_world.specs.Flat.{Gridded, opening}
use Rattle.level_start.specs.declared.fault.StartFault.{StartFault}
use Rattle.level_start.specs.declared.fault.StartFault.TheVariants.{NoStart, Voodoo, ThingUnknown, Doom2Thing, Spitter, Memory}
use Rattle.level_start.specs.declared.entries.Entry.{Entry}
use Rattle.level_start.specs.declared.entries.Entry.TheVariants.{Player, Faulty}
use Rattle.level_start.specs.Entries.{entry_at}
use Rattle.level_start.specs.Start.{is_player, stands_before, fault_at, missing_start, faults_of, first_fault, spawned_at, spawned_of, Blames}
use Rattle.level_start.specs.Begun.{IsBegun}

or_no : (b : Bool) → (b || false) ≡ b
or_no true = refl
or_no false = refl

or_yes : (b : Bool) → (b || true) ≡ true
or_yes true = refl
or_yes false = refl

-- whether the player stands after one thing more
stands_next : (level : Lists) (tables : Tables) (skill i : ℕ) → stands_before level tables skill (i + 1) ≡ (stands_before level tables skill i || list_any is_player (entry_at level tables skill i ∷ []))
stands_next level tables skill i =
    ap (list_any is_player) (map-range_with_len_more (entry_at level tables skill) 0 i i (omega arith))
    ∙ list_any-append is_player (map (entry_at level tables skill) (range_with_len 0 i)) (entry_at level tables skill i ∷ [])

-- what isn't the player leaves it so
pub stands_still : (level : Lists) (tables : Tables) (skill i : ℕ) (stood : Bool) (entry : Entry) → entry ≡ entry_at level tables skill i → is_player entry ≡ false → stood ≡ stands_before level tables skill i → stood ≡ stands_before level tables skill (i + 1)
stands_still level tables skill i stood entry is other so_far =
    let none : list_any is_player (entry_at level tables skill i ∷ []) ≡ false = rw (sym is) (rw other refl) in
    so_far ∙ sym (stands_next level tables skill i ∙ (ap (λ more. stands_before level tables skill i || more) none ∙ or_no (stands_before level tables skill i)))

pub stands_now : (level : Lists) (tables : Tables) (skill i : ℕ) → Player ≡ entry_at level tables skill i → true ≡ stands_before level tables skill (i + 1)
stands_now level tables skill i is =
    let one : list_any is_player (entry_at level tables skill i ∷ []) ≡ true = rw (sym is) refl in
    sym (stands_next level tables skill i ∙ (ap (λ more. stands_before level tables skill i || more) one ∙ or_yes (stands_before level tables skill i)))

-- ---- who is to blame

blames_known : (first : Option StartFault) (fault : StartFault) → first ≡ Some fault → Blames first fault
blames_known first NoStart is = is
blames_known first Voodoo is = is
blames_known first (ThingUnknown i number) is = is
blames_known first (Doom2Thing i) is = is
blames_known first (Spitter i) is = is
blames_known first Memory is = tt

blames_on : (one first : Option StartFault) (fault : StartFault) → (one ≡ Some fault → first ≡ Some fault) → Blames one fault → Blames first fault
blames_on one first NoStart on blame = on blame
blames_on one first Voodoo on blame = on blame
blames_on one first (ThingUnknown i number) on blame = on blame
blames_on one first (Doom2Thing i) on blame = on blame
blames_on one first (Spitter i) on blame = on blame
blames_on one first Memory on blame = tt

pub blames_entry : (level : Lists) (tables : Tables) (skill i : ℕ) (fault : StartFault) → Faulty fault ≡ entry_at level tables skill i → Blames (fault_at level tables skill i) fault
blames_entry level tables skill i fault is = blames_known (fault_at level tables skill i) fault (rw (sym is) refl)

-- ---- one thing after the other

-- What is spawned, and what is wrong, from thing i on gives what all gives from the first.
pub record Entered (level : Lists) (tables : Tables) (skill : ℕ) (world : Gridded) (stands : Bool) (i : ℕ) : Type 0 where
  pub left : fold (spawned_at level tables skill) world (range_with_len i (length level.things - i)) ≡ spawned_of level tables skill
  pub faults : filter_map (fault_at level tables skill) (range_with_len i (length level.things - i)) ++ missing_start (stands_before level tables skill (length level.things)) ≡ faults_of level tables skill
  pub stood : stands ≡ stands_before level tables skill i
  pub begun : IsBegun stands level tables world

pub entered_first : (level : Lists) (tables : Tables) (skill : ℕ) (world : Gridded) → world ≡ opening level → IsBegun false level tables world → Entered level tables skill world false 0
entered_first level tables skill world opens begun =
    let all : length level.things - 0 ≡ length level.things = omega arith in
    record { left = rw all (rw opens refl); faults = rw all refl; stood = refl; begun = begun }

pub entered_next : (level : Lists) (tables : Tables) (skill : ℕ) (world next : Gridded) (stood stands : Bool) (i : ℕ) → Entered level tables skill world stood i → i < length level.things → next ≡ spawned_at level tables skill world i → fault_at level tables skill i ≡ None → stands ≡ stands_before level tables skill (i + 1) → IsBegun stands level tables next → Entered level tables skill next stands (i + 1)
entered_next level tables skill world next stood stands i entered below is sound stands-is begun =
    let more : length level.things - i ≡ suc (length level.things - (i + 1)) = omega arith in
    record { left = rw is (rw more at entered.left); faults = rw sound at (rw more at entered.faults); stood = stands-is; begun = begun }

-- what is wrong with thing i is the first that is wrong
pub entered_fault : (level : Lists) (tables : Tables) (skill : ℕ) (world : Gridded) (stood : Bool) (i : ℕ) (fault : StartFault) → Entered level tables skill world stood i → i < length level.things → Blames (fault_at level tables skill i) fault → Blames (first_fault level tables skill) fault
entered_fault level tables skill world stood i fault entered below blame =
    let more : length level.things - i ≡ suc (length level.things - (i + 1)) = omega arith in
    let on : fault_at level tables skill i ≡ Some fault → first_fault level tables skill ≡ Some fault = λ is. ap (λ faults. slice_get faults 0) (sym (rw is at (rw more at entered.faults))) in
    blames_on (fault_at level tables skill i) (first_fault level tables skill) fault on blame

pub entered_all : (level : Lists) (tables : Tables) (skill : ℕ) (world : Gridded) (stood : Bool) (i : ℕ) → Entered level tables skill world stood i → length level.things ≡ i → world ≡ spawned_of level tables skill
entered_all level tables skill world stood i entered end =
    let none : length level.things - i ≡ 0 = omega arith in
    rw none at entered.left

-- at the end nothing is wrong but that the player may be missing
pub entered_missing : (level : Lists) (tables : Tables) (skill : ℕ) (world : Gridded) (stood : Bool) (i : ℕ) → Entered level tables skill world stood i → length level.things ≡ i → first_fault level tables skill ≡ slice_get (missing_start stood) 0
entered_missing level tables skill world stood i entered end =
    let none : length level.things - i ≡ 0 = omega arith in
    let faults : missing_start (stands_before level tables skill (length level.things)) ≡ faults_of level tables skill = rw none at entered.faults in
    let same : stood ≡ stands_before level tables skill (length level.things) = rw end entered.stood in
    sym (ap (λ stands. slice_get (missing_start stands) 0) same ∙ ap (λ all. slice_get all 0) faults)
