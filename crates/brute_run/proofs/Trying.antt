-- A search by hands that take turns: its beginning, the turns between two tries, a try, and its end.
use Rattle.std.proofs.Common.{zero, suc, ◌≡◌, ℕ, ◌+◌, ◌-◌, ◌*◌, ◌<◌, ◌≤◌, inl, inr, Bool, true, false, Option, Some, None, List, [], ◌∷◌, length, get_or, set, nat_eq, refl, sym, ◌∙◌, ap, subst, arith, true≢false, get_or-set_other, get_or-set_same, length-set}
use Rattle.std.specs.Prelude.{All, Any, Contains, IfSome, IsSomeAnd, sum_by, replicate}
use Rattle.std.proofs.Math.Nat.{mul-le-mul_right}
use Rattle.std.proofs.lemmas.Bool.{cases_eq, cases_Bool, eq-eqb, eqb-true}
use Rattle.std.proofs.lemmas.List.Folds.{Any-from_list_any, list_any-from_Any}
use Rattle.std.proofs.lemmas.List.Sums.{sum_by-cons}
use Rattle.doom_edge.specs.Counts.{raised, raised-zero, raised_from}
use Rattle.doom_edge.specs.Costs.{Rises}
use Rattle.game_trait.specs.declared.game.Game.{Ghosts}
use Rattle.brute_ranges.specs.Space.{Ranges}
use Rattle.brute_targets.specs.declared.want.Want.{Want}
use Rattle.search_core.specs.declared.hand.Phase.{Phase}
use Rattle.search_core.specs.declared.hand.Phase.TheVariants as phases
use Rattle.search_core.specs.Numbers.{sum_below, first_of}
use Rattle.search_core.specs.Hand.{Standing, fresh, told, FitsPhase}
use Rattle.search_core.specs.Machine.{Machine, opening, hand_at, tried, verdict, IsMachine, IsHandOf, IsMeets, AllOver, has_ended, ended_in, is_in, Fits}
use Rattle.search_core.specs.Order.{Progress, Follows, events_of}
use Rattle.search_core.specs.Trail.{ComesTo, HasTriedIn, HasTried, HaveTried, TriesNow}
use Rattle.search_core.specs.Dues.{IsHandFor, AddsNoMore, LosesNone, left_to}
use Rattle.search_core.specs.Keeps.{KeepsOn, Carries}
use Rattle.brute_run.specs.Search.{count_of, meets}
use Rattle.brute_run.specs.Walks.{Walked, fresh_walk, shared_with}
use Rattle.brute_run.specs.Costs.{block_size, new_tics, most_tics, block_cost, cost_by}
use Rattle.brute_run.specs.Working.{trail, trail_of, passing, first_passing, most_left, least_left, least_block}
use Rattle.brute_run.specs.Simulating.{walk_at, IsWalkFrom, IsPlayed, IsSearching}
use Rattle.brute_run.proofs.Passing.{has_passing, passes_of, passing_rises, passing_within, first_passing-le, first_passing-within}
use Rattle.brute_run.proofs.Dues.{most_adds, least_keeps, miss_most, meet_most, miss_least, meet_least, visit_most, visit_least}
use Rattle.brute_run.proofs.Totals.{all_cost, all_least, rises_by}
use Rattle.brute_run.proofs.Starting.{fresh_belongs}
use Rattle.brute_run.proofs.Turning.{IsVisited}

-- a number is in the list exactly where the test finds it to meet
pub is_in_passing : (test : ℕ → Bool) (count k : ℕ) → k < count → is_in (passing test count) k ≡ test k
is_in_passing test count k below = elim (cases_Bool (test k)) [
  | inl passes ↦
      let has = has_passing test count k below passes in
      list_any-from_Any (λ m. nat_eq m k) (passing test count) (has.0, k, has.1, has.2, eq-eqb k k refl) ∙ sym passes
  | inr fails ↦ elim (cases_Bool (is_in (passing test count) k)) [
    | inl found ↦ absurd (true≢false (sym (passes_of test count k (contained (Any-from_list_any (λ m. nat_eq m k) (passing test count) found))) ∙ fails))
    | inr not_found ↦ not_found ∙ sym fails
  ]
]
  where
    contained : Any (λ m. nat_eq m k ≡ true) (passing test count) → Contains (passing test count) k
    contained (i, m, within, is, equal) =
        let same : m ≡ k = eqb-true m k equal in
        (i, within, subst (λ n. get_or (passing test count) i n ≡ n) same is)

pub passing_meets : (test : ℕ → Bool) (count : ℕ) → IsMeets count (passing test count)
passing_meets test count = (passing_rises test count, passing_within test count)

hand_of : (count : ℕ) (core : Machine) (i : ℕ) → IsMachine core → core.count ≡ count → core.block ≡ block_size → i < length core.hands → IsHandFor count block_size (hand_at core i)
hand_of count core i sound counts blocks within =
    let this : IsHandOf core (hand_at core i) = sound.hands i (fresh core.count core.block) within in
    record { count_is = this.count ∙ counts; block_is = this.block ∙ blocks; sound = this.sound }

-- the turns between two tries
played_on : (test : ℕ → Bool) (ranges : Ranges) (before tics : ℕ) (old new : Machine) → old.count ≡ count_of ranges → old.block ≡ block_size → Fits (passing test (count_of ranges)) old
    → KeepsOn old new → IsPlayed test ranges before tics old → IsPlayed test ranges before tics new
played_on test ranges before tics old new counts blocks fits keeps paid =
    let first : ℕ = first_passing test (count_of ranges) in
    let adds : AddsNoMore old.count old.block (most_left test ranges) (block_cost test ranges) =
    rw (counts, blocks) (most_adds test ranges) in
    let loses : LosesNone (first_of old.count (passing test (count_of ranges))) old.count old.block (least_left ranges (first_passing test (count_of ranges))) (least_block ranges (first_passing test (count_of ranges))) =
    rw (counts, blocks) (least_keeps ranges (first_passing test (count_of ranges)) (first_passing-within test (count_of ranges))) in
    record {
      played = paid.played;
      tics_are = paid.tics_are;
      most = omega (arith, paid.most, keeps.most (most_left test ranges) (block_cost test ranges) adds);
      least = omega (arith, paid.least, keeps.least (passing test (count_of ranges)) (least_left ranges (first_passing test (count_of ranges))) (least_block ranges (first_passing test (count_of ranges))) fits loses);
    }

pub searching_on : {G W : Type 0} (rules : Ghosts G W) (game : G) (wants : List Want) (ranges : Ranges) (kept : W) (order : List ℕ) (before tics : ℕ) (walks : List (Walked W)) (old new : Progress)
    → IsSearching rules game wants ranges kept order before walks old tics → Carries old new → IsMachine new.core → IsSearching rules game wants ranges kept order before walks new tics
searching_on rules game wants ranges kept order before tics walks old new is carries sound = record {
  sound = sound;
  count_is = carries.core.count ∙ is.count_is;
  block_is = carries.core.block ∙ is.block_is;
  follows = carries.follows _ _ is.follows;
  walks_are = is.walks_are ∙ sym carries.core.hands;
  each = is.each;
  tried = carries.core.tried _ is.tried;
  paid = played_on (meets rules game kept wants ranges) ranges before tics old.core new.core is.count_is is.block_is is.follows.fits carries.core is.paid;
}

-- the beginning
none_left : (f : Standing → ℕ) (n : ℕ) (hand : Standing) → f hand ≡ 0 → sum_by f (replicate n hand) ≡ 0
none_left f zero hand none = refl
none_left f (suc n) hand none = omega (arith, sum_by-cons f hand (replicate n hand), none, none_left f n hand none)

opening_left : (f : Standing → ℕ) (core : Machine) (count block hands : ℕ) → core ≡ opening count block hands → f (fresh count block) ≡ 0 → left_to f core ≡ 0
opening_left f core count block hands is none = ap (left_to f) is ∙ none_left f hands (fresh count block) none

pub searching_start : {G W : Type 0} (rules : Ghosts G W) (game : G) (wants : List Want) (ranges : Ranges) (kept : W) (order : List ℕ) (before tics count hands : ℕ) (walks : List (Walked W)) (search : Progress)
    → rules.fits game kept → count ≡ count_of ranges → 0 < count → search.core ≡ opening count block_size hands → IsMachine search.core
    → ((meets : List ℕ) → IsMeets count meets → Follows meets (events_of count block_size meets order) search)
    → All (λ walk. walk ≡ fresh_walk kept) walks → length walks ≡ length search.core.hands → HaveTried (λ _. None) search.core → tics ≡ before
    → IsSearching rules game wants ranges kept order before walks search tics
searching_start {W = W} rules game wants ranges kept order before tics count hands walks search fits is some_number opens sound follows all many tried same =
    let test : ℕ → Bool = meets rules game kept wants ranges in
    record {
      sound = sound;
      count_is = ap (λ (m : Machine). m.count) opens ∙ is;
      block_is = ap (λ (m : Machine). m.block) opens;
      follows = subst (λ n. Follows (passing test (count_of ranges)) (events_of n block_size (passing test (count_of ranges)) order) search) is
          (follows (passing test (count_of ranges)) (subst (λ n. IsMeets n (passing test (count_of ranges))) (sym is) (passing_meets test (count_of ranges))));
      walks_are = many;
      each = λ i within. rw (all i (fresh_walk kept) within)
          (record { belongs = fresh_belongs rules game wants ranges kept fits (omega (arith, is)); full = inl refl; kept_is = refl });
      tried = λ i within. subst (λ (walk : Walked W). HasTried (trail walk) (hand_at search.core i)) (sym (all i (fresh_walk kept) (omega (arith, many)))) (tried i within);
      paid = record {
        played = 0;
        tics_are = same ∙ sym (raised-zero before);
        most = omega (arith, opening_left (most_left test ranges) search.core count block_size hands opens refl, none_claimed);
        least = omega (arith, none_claimed, ap (sum_below (least_block ranges (first_passing test (count_of ranges)))) none_claimed);
      };
    }
  where
    none_claimed : search.core.next ≡ 0
    none_claimed = ap (λ (m : Machine). m.next) opens

-- what a try leaves to a hand
try_most : (test : ℕ → Bool) (ranges : Ranges) (hand : Standing) (k : ℕ) (met : Bool) → IsHandFor (count_of ranges) block_size hand → hand.phase ≡ phases.Try k → met ≡ test k
    → most_left test ranges (told hand (verdict met)) + most_tics ranges k ≤ most_left test ranges hand
try_most test ranges hand k true is e says = meet_most test ranges hand k is e
try_most test ranges hand k false is e says = miss_most test ranges hand k is e (sym says)

try_least : (test : ℕ → Bool) (ranges : Ranges) (hand : Standing) (k : ℕ) (met : Bool) → k < count_of ranges → IsHandFor (count_of ranges) block_size hand → hand.phase ≡ phases.Try k → met ≡ test k
    → least_left ranges (first_passing test (count_of ranges)) hand ≤ least_left ranges (first_passing test (count_of ranges)) (told hand (verdict met)) + new_tics ranges k
try_least test ranges hand k true below is e says = meet_least ranges (first_passing test (count_of ranges)) hand k (first_passing-le test (count_of ranges) k below (sym says)) is e
try_least test ranges hand k false below is e says = miss_least ranges (first_passing test (count_of ranges)) hand k is e

trail_now : {W : Type 0} (walk : Walked W) (worlds : List W) (k : ℕ) → walk.worlds ≡ worlds → 0 < length worlds → walk.last ≡ k → trail walk ≡ Some k
trail_now walk [] k are some_world is = absurd (omega arith)
trail_now walk (w ∷ ws) k are some_world is = ap (λ xs. trail_of xs walk.last) are ∙ ap Some is

-- what the call says that tells a schedule of a try
pub record IsTried (old new : Progress) (met : Bool) (i k : ℕ) : Type 0 where
  pub follows : (meets : List ℕ) (all : ℕ) → met ≡ is_in meets k → Follows meets all old → Follows meets all new
  pub core : new.core ≡ tried old.core i met
  pub sound : IsMachine new.core
  pub have_tried : (last now : ℕ → Option ℕ) → TriesNow i k last now → HaveTried last old.core → HaveTried now new.core
  pub left : (left : Standing → ℕ) → left_to left new.core + left (hand_at old.core i) ≡ left_to left old.core + left (told (hand_at old.core i) (verdict met))

played_try : (test : ℕ → Bool) (ranges : Ranges) (before tics after cost : ℕ) (old new : Machine) (i k : ℕ) (met : Bool) → IsHandFor (count_of ranges) block_size (hand_at old i)
    → (hand_at old i).phase ≡ phases.Try k → k < count_of ranges → met ≡ test k → after ≡ raised tics cost → cost ≤ most_tics ranges k → new_tics ranges k ≤ cost → new.next ≡ old.next
    → ((left : Standing → ℕ) → left_to left new + left (hand_at old i) ≡ left_to left old + left (told (hand_at old i) (verdict met)))
    → IsPlayed test ranges before tics old → IsPlayed test ranges before after new
played_try test ranges before tics after cost old new i k met is e below says counted most least same left paid =
    let first : ℕ = first_passing test (count_of ranges) in
    record {
      played = paid.played + cost;
      tics_are = counted ∙ raised_from before tics paid.played cost paid.tics_are;
      most = omega (arith, paid.most, most, left (most_left test ranges), try_most test ranges (hand_at old i) k met is e says, ap (sum_below (block_cost test ranges)) same);
      least = omega (
        arith,
        paid.least,
        least,
        left (least_left ranges (first_passing test (count_of ranges))),
        try_least test ranges (hand_at old i) k met below is e says,
        ap (sum_below (least_block ranges (first_passing test (count_of ranges)))) same,
      );
    }

pub searching_try : {G W : Type 0} (rules : Ghosts G W) (game : G) (wants : List Want) (ranges : Ranges) (kept : W) (order : List ℕ) (before tics after : ℕ) (walks : List (Walked W)) (later : Walked W)
    (old new : Progress) (i k : ℕ) (met : Bool) → IsSearching rules game wants ranges kept order before walks old tics → i < length old.core.hands → (hand_at old.core i).phase ≡ phases.Try k → k < count_of ranges
    → IsVisited rules game wants ranges (walk_at kept walks i) later tics after k met → IsTried old new met i k
    → IsSearching rules game wants ranges kept order before (set walks i later) new after
searching_try {W = W} rules game wants ranges kept order before tics after walks later old new i k met is there e below visit tries = record {
  sound = tries.sound;
  count_is = ap (λ (m : Machine). m.count) tries.core ∙ is.count_is;
  block_is = ap (λ (m : Machine). m.block) tries.core ∙ is.block_is;
  follows = tries.follows (passing test (count_of ranges)) _ (says ∙ sym (is_in_passing test (count_of ranges) k below)) is.follows;
  walks_are = length-set walks i later ∙ is.walks_are ∙ sym (ap (λ (m : Machine). length m.hands) tries.core ∙ length-set old.core.hands i _);
  each = λ j inside. elim (cases_eq j i) [
    | inl same ↦ subst (λ n. IsWalkFrom rules game wants ranges kept (walk_at kept (set walks i later) n)) (sym same)
        (rw (get_or-set_same walks i later (fresh_walk kept) within)
        (record { belongs = visit.belongs; full = inr visit.full; kept_is = visit.kept ∙ this.kept_is }))
    | inr other ↦ rw (get_or-set_other walks i j later (fresh_walk kept) other) (is.each j (rw (length-set walks i later) at inside))
  ];
  tried = tries.have_tried (λ j. trail (walk_at kept walks j)) (λ j. trail (walk_at kept (set walks i later) j))
      (record {
        this = ap trail (get_or-set_same walks i later (fresh_walk kept) within) ∙ trail_now later later.worlds k refl visit.some_world visit.last;
        others = λ j other. ap trail (get_or-set_other walks i j later (fresh_walk kept) other);
      }) is.tried;
  paid = played_try test ranges before tics after (length ranges.tics - shared_with (walk_at kept walks i) ranges k) old.core new.core i k met
      (hand_of (count_of ranges) old.core i is.sound is.count_is is.block_is there) e below says visit.tics_are
      (visit_most ranges (walk_at kept walks i) (hand_at old.core i) k this.full ((hand_of (count_of ranges) old.core i is.sound is.count_is is.block_is there).block_is) comes)
      (visit_least ranges (walk_at kept walks i) (hand_at old.core i) k comes visit.nearest)
      (ap (λ (m : Machine). m.next) tries.core) tries.left is.paid;
}
  where
    test : ℕ → Bool
    test = meets rules game kept wants ranges

    within : i < length walks
    within = omega (arith, is.walks_are)

    this : IsWalkFrom rules game wants ranges kept (walk_at kept walks i)
    this = is.each i (omega (arith, is.walks_are))

    says : met ≡ meets rules game kept wants ranges k
    says = visit.met_is ∙ ap (λ w. meets rules game w wants ranges k) this.kept_is

    comes : ComesTo (trail (walk_at kept walks i)) (hand_at old.core i) k
    comes = subst (λ (p : Phase). HasTriedIn (trail (walk_at kept walks i)) (hand_at old.core i) p) e (is.tried i there)

-- the end
over_none : (test : ℕ → Bool) (ranges : Ranges) (hand : Standing) (p : Phase) → ended_in p ≡ true → hand.phase ≡ p → most_left test ranges hand ≡ 0
over_none test ranges hand phases.Claim over e = rw e refl
over_none test ranges hand (phases.Look k) over e = absurd (true≢false (sym over))
over_none test ranges hand (phases.Try k) over e = absurd (true≢false (sym over))
over_none test ranges hand (phases.Post k) over e = rw e refl
over_none test ranges hand phases.Over over e = rw e refl

over_least : (ranges : Ranges) (first : ℕ) (hand : Standing) (p : Phase) → ended_in p ≡ true → hand.phase ≡ p → least_left ranges first hand ≡ 0
over_least ranges first hand phases.Claim over e = rw e refl
over_least ranges first hand (phases.Look k) over e = absurd (true≢false (sym over))
over_least ranges first hand (phases.Try k) over e = absurd (true≢false (sym over))
over_least ranges first hand (phases.Post k) over e = rw e refl
over_least ranges first hand phases.Over over e = rw e refl

all_none : (f : Standing → ℕ) (hands : List Standing) → ((hand : Standing) → has_ended hand ≡ true → f hand ≡ 0) → All (λ hand. has_ended hand ≡ true) hands → sum_by f hands ≡ 0
all_none f [] none over = refl
all_none f (x ∷ xs) none over =
    omega (arith, sum_by-cons f x xs, none x (over 0 x (omega arith)), all_none f xs none (λ k d within. over (suc k) d (omega arith)))

ended_last : (hand : Standing) (p : Phase) → ended_in p ≡ true → FitsPhase hand p → IsSomeAnd hand.last (λ n. hand.seen ≤ n * hand.block)
ended_last hand phases.Claim over fits = absurd (true≢false (sym over))
ended_last hand (phases.Look k) over fits = absurd (true≢false (sym over))
ended_last hand (phases.Try k) over fits = absurd (true≢false (sym over))
ended_last hand (phases.Post k) over fits = absurd (true≢false (sym over))
ended_last hand phases.Over over fits = fits

seen_next : (last : Option ℕ) (seen block next : ℕ) → IfSome last (λ n. n < next) → IsSomeAnd last (λ n. seen ≤ n * block) → seen ≤ next * block
seen_next None seen block next claimed over = absurd over
seen_next (Some n) seen block next claimed over = let below : n * block ≤ next * block = mul-le-mul_right block (omega arith) in omega (arith, below, over)

pub searching_end : {G W : Type 0} (rules : Ghosts G W) (game : G) (wants : List Want) (ranges : Ranges) (kept : W) (order : List ℕ) (before tics : ℕ) (walks : List (Walked W)) (search : Progress)
    → IsSearching rules game wants ranges kept order before walks search tics → AllOver search.core → search.core.least ≡ first_of search.core.count (passing (meets rules game kept wants ranges) (count_of ranges))
    → Rises (cost_by (meets rules game kept wants ranges) ranges (first_passing (meets rules game kept wants ranges) (count_of ranges))) before tics
searching_end rules game wants ranges kept order before tics walks search is over least =
    let test : ℕ → Bool = meets rules game kept wants ranges in
    let core : Machine = search.core in
    let hand : Standing = hand_at search.core 0 in
    let this : IsHandOf search.core (hand_at search.core 0) = is.sound.hands 0 (fresh search.core.count search.core.block) is.sound.some_hand in
    let ended : has_ended (hand_at search.core 0) ≡ true = over 0 (fresh search.core.count search.core.block) is.sound.some_hand in
    let seen : (hand_at search.core 0).seen ≤ search.core.next * (hand_at search.core 0).block =
    seen_next (hand_at search.core 0).last (hand_at search.core 0).seen (hand_at search.core 0).block search.core.next this.claimed
    (ended_last (hand_at search.core 0) (hand_at search.core 0).phase ended this.sound.phase) in
    let size : search.core.next * (hand_at search.core 0).block ≡ search.core.next * block_size = ap (λ b. search.core.next * b) (this.block ∙ is.block_is) in
    let first : search.core.least ≡ first_passing test (count_of ranges) = least ∙ ap (λ n. first_of n (passing test (count_of ranges))) is.count_is in
    let within : first_passing test (count_of ranges) ≤ search.core.next * block_size = omega (arith, this.least, seen, size, first) in
    let most_none = all_none (most_left test ranges) search.core.hands (λ h ended. over_none test ranges h h.phase ended refl) over in
    let least_none = all_none (least_left ranges (first_passing test (count_of ranges))) search.core.hands (λ h ended. over_least ranges (first_passing test (count_of ranges)) h h.phase ended refl) over in
    rises_by test ranges before is.paid.played tics
    (omega (arith, is.paid.most, all_cost test ranges search.core.next))
    (omega (arith, is.paid.least, least_none, all_least ranges (first_passing test (count_of ranges)) search.core.next within)) is.paid.tics_are
