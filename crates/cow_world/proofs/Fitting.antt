-- A write leaves what a world fits.
use Rattle.std.proofs.Common.{◌≡◌, ◌≢◌, ℕ, ◌+◌, ◌<◌, ◌≤◌, Bool, true, false, cond, List, [], ◌∷◌, ◌++◌, length, get_or, set, Option, Some, None, IsTrue, ◌<ℤ◌, IsSome, IfSome, refl, sym, ap, ◌∙◌, subst, inl, inr, arith, length-append, pos}
use Rattle.std.proofs.lemmas.Bool.{cases_eq, cases_lt, cases_Bool}
use Rattle.std.proofs.lemmas.List.{length-set, get_or-set_same, get_or-set_other, get_or_append_left, get_or_at, get_or_past}
use Rattle.std.proofs.lemmas.List.Sums.{sum_by-set, sum_by-append}
use Rattle.fixed_angle.specs.Tables.{Tables, kind_with}
use Rattle.map_geometry.specs.Lists.{Lists}
use Rattle.cow_world.specs.declared.records.Sector.{Sector}
use Rattle.cow_world.specs.declared.records.Thing.{Thing}
use Rattle.cow_world.specs.declared.records.Player.{Player}
use Rattle.cow_world.specs.declared.records.Thinker.{Thinker}
use Rattle.cow_world.specs.declared.records.Thinker.TheVariants.{Ended}
use Rattle.cow_world.specs.Thinkers.{moved_by, is_lift, lift_count}
use Rattle.cow_world.specs.Flat.{Gridded, parts, with_parts, no_sector, no_thing, sector_at, thing_at, thinker_at, set_sector, push_thing, set_thing, link, push_thinker, set_thinker, set_player}
use Rattle.cow_world.specs.Ends.{at_rest, end_mover}
use Rattle.cow_world.specs.Fits.{FitsLevel, Fits, FitsBut, KindsBut, KeepsFit, KeepsFitWith, KeepsLevel, NamesMover, Serves, GoesOn, StaysAlive}

-- what a thinker counts for among the lifts
abbrev one_if : Bool → ℕ
one_if test = cond test 1 0

abbrev weight : Thinker → ℕ
weight thinker = one_if (is_lift thinker)

-- what holds at each place holds after a write that it holds of
each_set : {X : Type 0} (P : ℕ → X → Type 0) (xs : List X) (i : ℕ) (to d : X) → P i to → ((j : ℕ) → j < length xs → P j (get_or xs j d)) → (j : ℕ) → j < length (set xs i to) → P j (get_or (set xs i to) j d)
each_set P xs i to d new old j below =
    let within : j < length xs = omega (arith, length-set xs i to) in
    elim (cases_eq j i) [
      | inl same ↦
          let at : i < length xs = omega arith in
          let there : P j to = subst (λ k. P k to) (sym same) new in
          let reads : get_or (set xs i to) j d ≡ to = rw same (get_or-set_same xs i to d at) in
          subst (P j) (sym reads) there
      | inr other ↦ subst (P j) (sym (get_or-set_other xs i j to d other)) (old j within)
    ]

-- and after a push of what it holds of
each_push : {X : Type 0} (P : ℕ → X → Type 0) (xs : List X) (x d : X) → P (length xs) x → ((j : ℕ) → j < length xs → P j (get_or xs j d)) → (j : ℕ) → j < length (xs ++ x ∷ []) → P j (get_or (xs ++ x ∷ []) j d)
each_push P xs x d new old j below =
    elim (cases_lt j (length xs)) [
      | inl within ↦ subst (P j) (sym (get_or_append_left xs (x ∷ []) d j within)) (old j within)
      | inr last ↦
          let is : length xs ≡ j = omega (arith, length-append xs (x ∷ [])) in
          let there : P j x = subst (λ k. P k x) is new in
          subst (P j) (sym (get_or_at xs x [] d j is)) there
    ]

-- a fact of what an option holds, from another fact of it
some_then : {X : Type 0} (o : Option X) (P Q : X → Type 0) → IfSome o P → ((x : X) → o ≡ Some x → P x → Q x) → IfSome o Q
some_then None P Q has then = tt
some_then (Some x) P Q has then = then x refl has

-- a write that leaves each thing's kind and the player
keeps_kinds : (old new : Gridded) → KeepsLevel old new → length (parts new).things ≡ length (parts old).things → ((i : ℕ) → (thing_at new i).kind ≡ (thing_at old i).kind) → (parts new).player ≡ (parts old).player → KeepsFit old new
keeps_kinds old new level long same player =
    let kinds : (tables : Tables) (place : ℕ) → KindsBut tables place old → KindsBut tables place new =
    λ tables place were i below other. rw (same i) (were i (omega (arith, long)) other) in
    record {
      level = level;
      but = λ l tables place fits. record { lists = level l fits.lists; kinds = kinds tables place fits.kinds };
      whole = λ l tables fits. record {
        lists = level l fits.lists;
        kinds = rw player (kinds tables (parts old).player.thing fits.kinds);
        there = rw (player, long) fits.there;
        alive = rw player fits.alive;
      };
    }

-- a write of what no fit speaks of
pub keeps-aside : (w : Gridded) (specials acted : List ℕ) (rng time tics exited : ℕ) → length specials ≡ length (parts w).specials
    → KeepsFit w (with_parts w (record (parts w) { specials = specials; acted = acted; rng = rng; time = time; tics = tics; exited = exited }))
keeps-aside w specials acted rng time tics exited long =
    keeps_kinds w (with_parts w (record (parts w) { specials = specials; acted = acted; rng = rng; time = time; tics = tics; exited = exited }))
    (λ level fits. record { live = tt; sectors = fits.sectors; specials = long ∙ fits.specials; movers = fits.movers; lifts = fits.lifts; grid = fits.grid })
    refl (λ i. refl) refl

pub keeps-links : (w : Gridded) (links : List ℕ) → KeepsFit w (with_parts w (record (parts w) { links = links }))
keeps-links w links =
    keeps_kinds w (with_parts w (record (parts w) { links = links }))
    (λ level fits. record { live = tt; sectors = fits.sectors; specials = fits.specials; movers = fits.movers; lifts = fits.lifts; grid = fits.grid })
    refl (λ i. refl) refl

pub keeps-set_sector : (w : Gridded) (i : ℕ) (to : Sector) → NamesMover w i to → KeepsFit w (set_sector w i to)
keeps-set_sector w i to names =
    keeps_kinds w (set_sector w i to)
    (λ level fits. record {
      live = tt;
      sectors = length-set (parts w).sectors i to ∙ fits.sectors;
      specials = fits.specials;
      movers = each_set (λ j (sector : Sector). IfSome sector.mover (λ mover. moved_by (thinker_at w mover) ≡ Some j)) (parts w).sectors i to no_sector names fits.movers;
      lifts = fits.lifts;
      grid = fits.grid;
    })
    refl (λ j. refl) refl

-- the kind at each place after a write of a thing of the same kind
kind_set : (things : List Thing) (i : ℕ) (to : Thing) → i < length things → to.kind ≡ (get_or things i no_thing).kind → (j : ℕ) → (get_or (set things i to) j no_thing).kind ≡ (get_or things j no_thing).kind
kind_set things i to at same j = elim (cases_eq j i) [
  | inl here ↦ rw (here, get_or-set_same things i to no_thing at) same
  | inr other ↦ ap (λ (thing : Thing). thing.kind) (get_or-set_other things i j to no_thing other)
]

pub keeps-set_thing : (w : Gridded) (i : ℕ) (to : Thing) → i < length (parts w).things → to.kind ≡ (thing_at w i).kind → KeepsFit w (set_thing w i to)
keeps-set_thing w i to at same =
    keeps_kinds w (set_thing w i to)
    (λ level fits. record { live = tt; sectors = fits.sectors; specials = fits.specials; movers = fits.movers; lifts = fits.lifts; grid = fits.grid })
    (length-set (parts w).things i to) (kind_set (parts w).things i to at same) refl

pub keeps-link : (w : Gridded) (thing : ℕ) (x y : _) → thing < length (parts w).things → KeepsFit w (link w thing x y)
keeps-link w thing x y at =
    let to : Thing = record (thing_at w thing) { x = x; y = y } in
    keeps_kinds w (link w thing x y)
    (λ level fits. record { live = tt; sectors = fits.sectors; specials = fits.specials; movers = fits.movers; lifts = fits.lifts; grid = fits.grid })
    (length-set (parts w).things thing to) (kind_set (parts w).things thing to at refl) refl

pub keeps-push_thing : (w : Gridded) (thing : Thing) → KeepsFitWith thing w (push_thing w thing)
keeps-push_thing w thing =
    let was : List Thing = (parts w).things in
    let KindIs : Tables → ℕ → ℕ → Thing → Type 0 = λ tables place j thing. j ≢ place → IsSome (kind_with tables thing.kind) in
    let level : KeepsLevel w (push_thing w thing) = λ level fits. record { live = tt; sectors = fits.sectors; specials = fits.specials; movers = fits.movers; lifts = fits.lifts; grid = fits.grid } in
    let longer : length (was ++ thing ∷ []) ≡ length was + 1 = length-append was (thing ∷ []) in
    record {
      level = level;
      but = λ l tables place known fits. record {
        lists = level l fits.lists;
        kinds = each_push (KindIs tables place) was thing no_thing (λ _. known) fits.kinds;
      };
      next = λ l tables known fits. record {
        lists = level l fits.lists;
        kinds = each_push (KindIs tables (length (was ++ thing ∷ []))) was thing no_thing (λ _. known)
            (λ j below other. fits.kinds j below (λ past. absurd (omega (arith, below, past))));
      };
      itself = λ l tables fits. record {
        lists = level l fits.lists;
        kinds = each_push (KindIs tables (length was)) was thing no_thing (λ other. absurd (other refl)) fits.kinds;
      };
      whole = λ l tables known fits. record {
        lists = level l fits.lists;
        kinds = each_push (KindIs tables (parts w).player.thing) was thing no_thing (λ _. known) fits.kinds;
        there = omega (arith, fits.there, longer);
        alive = fits.alive;
      };
    }

pub keeps-push_thinker : (w : Gridded) (thinker : Thinker) → (IsTrue (is_lift thinker) → lift_count (parts w).thinkers < 30) → KeepsFit w (push_thinker w thinker)
keeps-push_thinker w thinker room =
    let was : List Thinker = (parts w).thinkers in
    keeps_kinds w (push_thinker w thinker)
    (λ level fits. record {
      live = tt;
      sectors = fits.sectors;
      specials = fits.specials;
      movers = λ j below. some_then (sector_at w j).mover (λ mover. moved_by (thinker_at w mover) ≡ Some j) (λ mover. moved_by (get_or (was ++ thinker ∷ []) mover Ended) ≡ Some j) (fits.movers j below)
          (λ mover _ moves. elim (cases_lt mover (length was)) [
            | inl within ↦ rw (get_or_append_left was (thinker ∷ []) Ended mover within) moves
            | inr past ↦
                let none : get_or was mover Ended ≡ Ended = get_or_past was mover Ended past in
                let absent : None ≡ Some j = sym (ap moved_by none) ∙ moves in
                absurd cc
          ]);
      lifts = elim (cases_Bool (is_lift thinker)) [
        | inl lift ↦
            let few = room lift in
            let more = sum_by-append weight was (thinker ∷ []) in
            let one : weight thinker ≡ 1 = rw lift refl in
            omega (arith, more, one, few)
        | inr other ↦
            let more = sum_by-append weight was (thinker ∷ []) in
            let none : weight thinker ≡ 0 = rw other refl in
            omega (arith, more, none, fits.lifts)
      ];
      grid = fits.grid;
    })
    refl (λ j. refl) refl

pub keeps-set_thinker : (w : Gridded) (i : ℕ) (to : Thinker) → i < length (parts w).thinkers → Serves w i to → KeepsFit w (set_thinker w i to)
keeps-set_thinker w i to at serves =
    let was : List Thinker = (parts w).thinkers in
    keeps_kinds w (set_thinker w i to)
    (λ level fits. record {
      live = tt;
      sectors = fits.sectors;
      specials = fits.specials;
      movers = λ j below. some_then (sector_at w j).mover (λ mover. moved_by (thinker_at w mover) ≡ Some j) (λ mover. moved_by (get_or (set was i to) mover Ended) ≡ Some j) (fits.movers j below)
          (λ mover names moves. elim (cases_eq mover i) [
            | inl same ↦
                let now : get_or (set was i to) mover Ended ≡ to = rw same (get_or-set_same was i to Ended at) in
                rw now (serves.moves j below (names ∙ ap (λ (k : ℕ). Some k) same))
            | inr other ↦ rw (get_or-set_other was i mover to Ended other) moves
          ]);
      lifts =
          let more = sum_by-set weight was i to Ended at in
          let no_more : weight to ≤ weight (get_or was i Ended) = weigh (is_lift to) (is_lift (get_or was i Ended)) serves.lift in
          omega (arith, more, no_more, fits.lifts);
      grid = fits.grid;
    })
    refl (λ j. refl) refl
  where
    weigh : (new old : Bool) → (IsTrue new → IsTrue old) → one_if new ≤ one_if old
    weigh true true implies = omega arith
    weigh true false implies = absurd (search (arith, implies refl))
    weigh false old implies = omega arith

-- a thinker that goes on serves a world that fits a level
serves : (w : Gridded) (i : ℕ) (to : Thinker) (level : Lists) → GoesOn w i to → FitsLevel level w → Serves w i to
serves w i to level goes_on fits = record {
  moves = λ sector below names.
      let Moves : Option ℕ → Type 0 = λ mover. IfSome mover (λ m. moved_by (thinker_at w m) ≡ Some sector) in
      goes_on.moves ∙ subst Moves names (fits.movers sector below);
  lift = λ is. rw (← goes_on.lift) is;
}

pub keeps-going_on : (w : Gridded) (i : ℕ) (to : Thinker) → i < length (parts w).thinkers → GoesOn w i to → KeepsFit w (set_thinker w i to)
keeps-going_on w i to at goes_on =
    keeps_kinds w (set_thinker w i to)
    (λ level fits. (keeps-set_thinker w i to at (serves w i to level goes_on fits)).level level fits)
    refl (λ j. refl) refl

-- the end of the mover of a sector
pub keeps-end_mover : (w : Gridded) (i sector : ℕ) → i < length (parts w).thinkers → sector < length (parts w).sectors → moved_by (thinker_at w i) ≡ Some sector → KeepsFit w (end_mover w i sector)
keeps-end_mover w i sector at there moves =
    let mid : Gridded = set_sector w sector (at_rest (sector_at w sector)) in
    let first : KeepsFit w mid = keeps-set_sector w sector (at_rest (sector_at w sector)) tt in
    let serving : (level : Lists) → FitsLevel level w → Serves mid i Ended = λ level fits. record {
      moves = λ j below names. elim (cases_eq j sector) [
        | inl same ↦
            let reads : sector_at mid j ≡ at_rest (sector_at w sector) = rw same (get_or-set_same (parts w).sectors sector (at_rest (sector_at w sector)) no_sector there) in
            let none : None ≡ Some i = sym (ap (λ (s : Sector). s.mover) reads) ∙ names in
            absurd cc
        | inr other ↦
            let reads : sector_at mid j ≡ sector_at w j = get_or-set_other (parts w).sectors sector j (at_rest (sector_at w sector)) no_sector other in
            let named : (sector_at w j).mover ≡ Some i = sym (ap (λ (s : Sector). s.mover) reads) ∙ names in
            let within : j < length (parts w).sectors = omega (arith, below, length-set (parts w).sectors sector (at_rest (sector_at w sector))) in
            let Moves : Option ℕ → Type 0 = λ mover. IfSome mover (λ m. moved_by (thinker_at w m) ≡ Some j) in
            let its : moved_by (thinker_at w i) ≡ Some j = subst Moves named (fits.movers j within) in
            let one : Some sector ≡ Some j = sym moves ∙ its in
            absurd (other cc)
      ];
      lift = λ is. absurd (search (arith, is));
    } in
    keeps_kinds w (end_mover w i sector)
    (λ level fits. (keeps-set_thinker mid i Ended at (serving level fits)).level level (first.level level fits))
    refl (λ j. refl) refl

pub level-set_player : (w : Gridded) (to : Player) → KeepsLevel w (set_player w to)
level-set_player w to level fits = record { live = tt; sectors = fits.sectors; specials = fits.specials; movers = fits.movers; lifts = fits.lifts; grid = fits.grid }

pub keeps-set_player : (w : Gridded) (to : Player) → StaysAlive w to → KeepsFit w (set_player w to)
keeps-set_player w to stays =
    let level : KeepsLevel w (set_player w to) = level-set_player w to in
    record {
      level = level;
      but = λ l tables place fits. record { lists = level l fits.lists; kinds = fits.kinds };
      whole = λ l tables fits. record {
        lists = level l fits.lists;
        kinds = rw stays.thing fits.kinds;
        there = rw stays.thing fits.there;
        alive = stays.alive;
      };
    }

pub fits-set_player : (w : Gridded) (to : Player) → to.thing < length (parts w).things → pos 0 <ℤ to.body.health → (level : Lists) (tables : Tables) → FitsBut level tables to.thing w → Fits level tables (set_player w to)
fits-set_player w to there alive level tables fits = record {
  lists = record { live = tt; sectors = fits.lists.sectors; specials = fits.lists.specials; movers = fits.lists.movers; lifts = fits.lists.lifts; grid = fits.lists.grid };
  kinds = fits.kinds;
  there = there;
  alive = alive;
}
