-- Whole runs: what stays, that they end, and how many turns they take.
use Rattle.std.proofs.Common.{zero, suc, zero-add, ◌≡◌, ℕ, ◌+◌, ◌*◌, ◌^◌, ◌<◌, ◌≤◌, Bool, true, false, cond, List, [], ◌∷◌, ◌++◌, length, refl, sym, ◌∙◌, ap, subst, inl, inr, arith, length-set, append_assoc}
use Rattle.std.specs.Prelude.{All, sum_by, replicate}
use Rattle.std.specs.List.{AllByRecursion}
use Rattle.std.proofs.lemmas.List.{length-replicate}
use Rattle.std.proofs.lemmas.Bool.{cases_eq, cases_lt, cases_Bool, false≢true}
use Rattle.std.proofs.lemmas.List.Sums.{get_or-le-sum_by, sum_by-cons}
use Rattle.std.proofs.lemmas.List.Elements.{All-from_get_or, All-replicate, recursion_from_All}
use Rattle.search_core.specs.declared.hand.Phase.{Phase}
use Rattle.search_core.specs.declared.hand.Phase.TheVariants as phases
use Rattle.search_core.specs.Hand.{Standing, fresh, PostsMet}
use Rattle.search_core.specs.Machine.{Machine, opening, hand_at, IsHandOf, IsMeets, turned, turned_in, step, step_in, run, IsMachine, work, work_of, work_in, ended_in, has_ended, AllOver, Fits, is_in}
use Rattle.search_core.specs.Order.{numbers_from, rounds, is_over, taken, events, IsSearch}
use Rattle.search_core.proofs.Steps.{machine-turned, machine-tried, work-turned, work-tried, keeps-turned, count-turned, fits-tried}

-- a turn that counts is one, and a turn that is skipped is none
abbrev one_unless : Bool → ℕ
one_unless over = cond over 0 1

hands-step : (meets : ℕ → Bool) (core : Machine) (i : ℕ) → length (step meets core i).hands ≡ length core.hands
hands-step meets core i = by_phase (hand_at core i).phase
  where
    turned_phase : (p : Phase) → length (turned_in core i (hand_at core i) p).hands ≡ length core.hands
    turned_phase phases.Claim = length-set core.hands i _
    turned_phase (phases.Look k) = length-set core.hands i _
    turned_phase (phases.Try k) = refl
    turned_phase (phases.Post k) = length-set core.hands i _
    turned_phase phases.Over = refl

    by_phase : (p : Phase) → length (step_in meets core i p).hands ≡ length core.hands
    by_phase phases.Claim = turned_phase (hand_at core i).phase
    by_phase (phases.Look k) = turned_phase (hand_at core i).phase
    by_phase (phases.Try k) = length-set core.hands i _
    by_phase (phases.Post k) = turned_phase (hand_at core i).phase
    by_phase phases.Over = turned_phase (hand_at core i).phase

pub machine-step : (meets : ℕ → Bool) (core : Machine) (i : ℕ) → IsMachine core → i < length core.hands → IsMachine (step meets core i)
machine-step meets core i sound within = by_phase (hand_at core i).phase refl
  where
    by_phase : (p : Phase) → (hand_at core i).phase ≡ p → IsMachine (step_in meets core i p)
    by_phase phases.Claim e = machine-turned core i sound within
    by_phase (phases.Look k) e = machine-turned core i sound within
    by_phase (phases.Try k) e = machine-tried core i k (meets k) sound within e
    by_phase (phases.Post k) e = machine-turned core i sound within
    by_phase phases.Over e = machine-turned core i sound within

-- the turn of a hand that has ended changes nothing
pub step-over : (meets : ℕ → Bool) (core : Machine) (i : ℕ) → is_over core i ≡ true → step meets core i ≡ core
step-over meets core i = by_phase (hand_at core i).phase refl
  where
    by_phase : (p : Phase) → (hand_at core i).phase ≡ p → ended_in p ≡ true → step_in meets core i p ≡ core
    by_phase phases.Claim e over = absurd (false≢true over)
    by_phase (phases.Look k) e over = absurd (false≢true over)
    by_phase (phases.Try k) e over = absurd (false≢true over)
    by_phase (phases.Post k) e over = absurd (false≢true over)
    by_phase phases.Over e over = rw e refl

-- and any other turn leaves less to do
pub work-step : (meets : ℕ → Bool) (core : Machine) (i : ℕ) → IsMachine core → i < length core.hands → work (step meets core i) + one_unless (is_over core i) ≤ work core
work-step meets core i sound within = by_phase (hand_at core i).phase refl
  where
    by_phase : (p : Phase) → (hand_at core i).phase ≡ p → work (step_in meets core i p) + one_unless (ended_in p) ≤ work core
    by_phase phases.Claim e = omega (arith, work-turned core i sound within (rw e refl))
    by_phase (phases.Look k) e = omega (arith, work-turned core i sound within (rw e refl))
    by_phase (phases.Try k) e = omega (arith, work-tried core i k (meets k) sound within e)
    by_phase (phases.Post k) e = omega (arith, work-turned core i sound within (rw e refl))
    by_phase phases.Over e = let same : turned core i ≡ core = rw e refl in rw same (omega arith)

-- the turns of a list are turns of hands that there are
abbrev pub InRange : Machine → List ℕ → Type 0
InRange core order = AllByRecursion (λ i. i < length core.hands) order

in_range-step : (meets : ℕ → Bool) (core : Machine) (i : ℕ) (order : List ℕ) → InRange core order → InRange (step meets core i) order
in_range-step meets core i [] h = tt
in_range-step meets core i (x ∷ xs) h = (rw (hands-step meets core i) h.0, in_range-step meets core i xs h.1)

-- what is claimed of runs, along a list
pub record RunsAlong (meets : ℕ → Bool) (core : Machine) (order : List ℕ) : Type 0 where
  pub sound : IsMachine (run meets core order)
  pub hands : length (run meets core order).hands ≡ length core.hands
  pub work : work (run meets core order) + taken meets core order ≤ work core

pub runs_along : (meets : ℕ → Bool) (order : List ℕ) (core : Machine) → IsMachine core → InRange core order → RunsAlong meets core order
runs_along meets [] core sound h = record { sound = sound; hands = refl; work = omega arith }
runs_along meets (i ∷ rest) core sound h =
    let next = runs_along meets rest (step meets core i) (machine-step meets core i sound h.0) (in_range-step meets core i rest h.1) in
    record {
      sound = next.sound;
      hands = next.hands ∙ hands-step meets core i;
      work = omega (arith, next.work, work-step meets core i sound h.0);
    }

run-append : (meets : ℕ → Bool) (core : Machine) (a b : List ℕ) → run meets core (a ++ b) ≡ run meets (run meets core a) b
run-append meets core [] b = refl
run-append meets core (i ∷ a) b = run-append meets (step meets core i) a b

taken-append : (meets : ℕ → Bool) (core : Machine) (a b : List ℕ) → taken meets core (a ++ b) ≡ taken meets core a + taken meets (run meets core a) b
taken-append meets core [] b = sym (zero-add (taken meets core b))
taken-append meets core (i ∷ a) b = let next = taken-append meets (step meets core i) a b in omega (arith, next)

pub in_range-append : (core : Machine) (a b : List ℕ) → InRange core a → InRange core b → InRange core (a ++ b)
in_range-append core [] b h k = k
in_range-append core (i ∷ a) b h k = (h.0, in_range-append core a b h.1 k)

pub in_range-numbers : (core : Machine) (n i : ℕ) → i + n ≤ length core.hands → InRange core (numbers_from i n)
in_range-numbers core zero i h = tt
in_range-numbers core (suc n) i h = (omega arith, in_range-numbers core n (i + 1) (omega arith))

in_range-rounds : (core : Machine) (r hands : ℕ) → hands ≤ length core.hands → InRange core (rounds r hands)
in_range-rounds core zero hands h = tt
in_range-rounds core (suc r) hands h = in_range-append core (numbers_from 0 hands) (rounds r hands) (in_range-numbers core hands 0 (omega arith)) (in_range-rounds core r hands h)

in_range-run : (meets : ℕ → Bool) (core : Machine) (order rest : List ℕ) → length (run meets core order).hands ≡ length core.hands → InRange core rest → InRange (run meets core order) rest
in_range-run meets core order [] same h = tt
in_range-run meets core order (i ∷ rest) same h = (omega (arith, h.0), in_range-run meets core order rest same h.1)

rounds-add : (a b hands : ℕ) → rounds (a + b) hands ≡ rounds a hands ++ rounds b hands
rounds-add zero b hands = ap (λ n. rounds n hands) (zero-add b)
rounds-add (suc a) b hands =
    let e : suc a + b ≡ suc (a + b) = omega arith in
    ap (λ n. rounds n hands) e ∙ ap (λ (xs : List ℕ). numbers_from 0 hands ++ xs) (rounds-add a b hands) ∙ sym (append_assoc (numbers_from 0 hands) (rounds a hands) (rounds b hands))

-- where all hands have ended nothing happens any more
over_at : (core : Machine) (i : ℕ) → AllOver core → i < length core.hands → is_over core i ≡ true
over_at core i over within = over i (fresh core.count core.block) within

pub stays_over : (meets : ℕ → Bool) (order : List ℕ) (core : Machine) → AllOver core → InRange core order → (run meets core order ≡ core) × (taken meets core order ≡ 0)
stays_over meets [] core over h = (refl, refl)
stays_over meets (i ∷ rest) core over h =
    let ended = over_at core i over h.0 in
    let same = step-over meets core i ended in
    let next = stays_over meets rest core over h.1 in
    (rw same next.0, rw (ended, same) (omega (arith, next.1)))

-- where no turn was taken, each hand of the list has ended
none_taken : (meets : ℕ → Bool) (core : Machine) (n i : ℕ) → taken meets core (numbers_from i n) ≡ 0 → (k : ℕ) → i ≤ k → k < i + n → is_over core k ≡ true
none_taken meets core zero i none k low high = absurd (omega arith)
none_taken meets core (suc n) i none k low high = elim (cases_Bool (is_over core i)) [
  | inl ended ↦
      let same = step-over meets core i ended in
      let counted = rw (ended, same) at none in
      let rest : taken meets core (numbers_from (i + 1) n) ≡ 0 = omega (arith, counted) in
      elim (cases_eq k i) [
        | inl here ↦ rw here ended
        | inr later ↦ none_taken meets core n (i + 1) rest k (omega arith) (omega arith)
      ]
  | inr running ↦ absurd (let counted = rw running at none in omega (arith, counted))
]

-- a hand that has nothing left to do has ended
idle_ends : (hand : Standing) (p : Phase) → work_in hand p ≡ 0 → ended_in p ≡ true
idle_ends hand phases.Claim none = absurd (omega arith)
idle_ends hand (phases.Look k) none = absurd (omega arith)
idle_ends hand (phases.Try k) none = absurd (omega arith)
idle_ends hand (phases.Post k) none = absurd (omega arith)
idle_ends hand phases.Over none = refl

no_work : (core : Machine) → work core ≡ 0 → AllOver core
no_work core none = All-from_get_or (λ hand. has_ended hand ≡ true) core.hands (fresh core.count core.block)
    (λ i within. let least = get_or-le-sum_by work_of core.hands i (fresh core.count core.block) within in
    idle_ends (hand_at core i) (hand_at core i).phase (omega (arith, least)))

pub all_over : (core : Machine) → ((k : ℕ) → k < length core.hands → is_over core k ≡ true) → AllOver core
all_over core h = All-from_get_or (λ hand. has_ended hand ≡ true) core.hands (fresh core.count core.block) h

-- as many rounds as there is work end all hands
pub rounds_end : (meets : ℕ → Bool) (r : ℕ) (core : Machine) → IsMachine core → work core ≤ r → AllOver (run meets core (rounds r (length core.hands)))
rounds_end meets zero core sound few = no_work core (omega arith)
rounds_end meets (suc r) core sound few =
    rw (run-append meets core (numbers_from 0 (length core.hands)) (rounds r (length core.hands))) (elim (cases_lt 0 (taken meets core (numbers_from 0 (length core.hands)))) [
      | inl some' ↦ let rest = rounds_end meets r (run meets core (numbers_from 0 (length core.hands))) first.sound (omega (arith, first.work)) in
          rw first.hands at rest
      | inr none ↦
          let over : AllOver core = all_over core (λ k within. none_taken meets core (length core.hands) 0 (omega (arith, none)) k (omega arith) (omega arith)) in
          let whole = stays_over meets (numbers_from 0 (length core.hands)) core over (in_range-numbers core (length core.hands) 0 (omega arith)) in
          let later = stays_over meets (rounds r (length core.hands)) core over (in_range-rounds core r (length core.hands) (omega arith)) in
          rw (whole.0, later.0) over
    ])
  where
    first : RunsAlong meets core (numbers_from 0 (length core.hands))
    first = runs_along meets (numbers_from 0 (length core.hands)) core sound (in_range-numbers core (length core.hands) 0 (omega arith))

-- after the order and as many rounds as there is work all hands have ended
pub ends_after : (meets : ℕ → Bool) (core : Machine) (order : List ℕ) (r : ℕ) → IsMachine core → InRange core order → work core ≤ r
    → AllOver (run meets core (order ++ rounds r (length core.hands)))
ends_after meets core order r sound h enough =
    let along = runs_along meets order core sound h in
    let ends = rounds_end meets r (run meets core order) along.sound (omega (arith, along.work)) in
    rw (run-append meets core order (rounds r (length core.hands))) (rw along.hands at ends)

-- more rounds than end all hands count no more
no_more : (meets : ℕ → Bool) (core : Machine) (order : List ℕ) (r s : ℕ) → IsMachine core → InRange core order
    → AllOver (run meets core (order ++ rounds r (length core.hands)))
    → taken meets core (order ++ rounds (r + s) (length core.hands)) ≡ taken meets core (order ++ rounds r (length core.hands))
no_more meets core order r s sound h over =
    let h' : InRange core (order ++ rounds r (length core.hands)) = in_range-append core order (rounds r (length core.hands)) h (in_range-rounds core r (length core.hands) (omega arith)) in
    let along = runs_along meets (order ++ rounds r (length core.hands)) core sound h' in
    let rest = stays_over meets (rounds s (length core.hands)) (run meets core (order ++ rounds r (length core.hands))) over
    (in_range-rounds (run meets core (order ++ rounds r (length core.hands))) s (length core.hands) (omega (arith, along.hands))) in
    let parts : order ++ rounds (r + s) (length core.hands) ≡ (order ++ rounds r (length core.hands)) ++ rounds s (length core.hands) =
    ap (λ (xs : List ℕ). order ++ xs) (rounds-add r s (length core.hands)) ∙ sym (append_assoc order (rounds r (length core.hands)) (rounds s (length core.hands))) in
    rw parts (omega (arith, taken-append meets core (order ++ rounds r (length core.hands)) (rounds s (length core.hands)), rest.1))

-- any number of rounds that ends all hands gives the same number of turns
pub same_events : (meets : ℕ → Bool) (core : Machine) (order : List ℕ) (r : ℕ) → IsMachine core → InRange core order
    → AllOver (run meets core (order ++ rounds r (length core.hands)))
    → taken meets core (order ++ rounds r (length core.hands)) ≡ events meets core order
same_events meets core order r sound h over =
    let a = no_more meets core order r (work core) sound h over in
    let b = no_more meets core order (work core) r sound h (ends_after meets core order (work core) sound h (omega arith)) in
    let turn : r + work core ≡ work core + r = omega arith in
    sym a ∙ ap (λ n. taken meets core (order ++ rounds n (length core.hands))) turn ∙ b

pub few_events : (meets : ℕ → Bool) (core : Machine) (order : List ℕ) → IsMachine core → InRange core order → events meets core order ≤ work core
few_events meets core order sound h =
    let along = runs_along meets (order ++ rounds (work core) (length core.hands)) core sound
    (in_range-append core order (rounds (work core) (length core.hands)) h (in_range-rounds core (work core) (length core.hands) (omega arith))) in
    omega (arith, along.work)

-- the turn of a hand that has ended doesn't count
pub events-skip : (meets : ℕ → Bool) (core : Machine) (i : ℕ) (order : List ℕ) → is_over core i ≡ true → events meets core (i ∷ order) ≡ events meets core order
events-skip meets core i order ended =
    let same = step-over meets core i ended in
    rw (ended, same) (omega arith)

-- any other counts once
pub events-step : (meets : ℕ → Bool) (core : Machine) (i : ℕ) (order : List ℕ) → IsMachine core → i < length core.hands → InRange core order → is_over core i ≡ false
    → events meets core (i ∷ order) ≡ 1 + events meets (step meets core i) order
events-step meets core i order sound within h running =
    let hands = hands-step meets core i in
    let now = machine-step meets core i sound within in
    let h' = in_range-step meets core i order h in
    let less = work-step meets core i sound within in
    let ends = ends_after meets (step meets core i) order (work core) now h' (omega arith) in
    let same = same_events meets (step meets core i) order (work core) now h' ends in
    let same' = ap (λ n. taken meets (step meets core i) (order ++ rounds (work core) n)) (sym hands) ∙ same in
    rw running (ap (λ n. 1 + n) same')

-- where the order has come to its end a round begins
pub events-round : (meets : ℕ → Bool) (core : Machine) → IsMachine core → events meets core [] ≡ events meets core (numbers_from 0 (length core.hands))
events-round meets core sound =
    sym (same_events meets core [] (suc (work core)) sound tt (ends_after meets core [] (suc (work core)) sound tt (omega arith)))

-- a round after the order is one of those that follow it
pub events-before_round : (meets : ℕ → Bool) (core : Machine) (order : List ℕ) → IsMachine core → InRange core order
    → events meets core (order ++ numbers_from 0 (length core.hands)) ≡ events meets core order
events-before_round meets core order sound h =
    ap (taken meets core) (append_assoc order (numbers_from 0 (length core.hands)) (rounds (work core) (length core.hands)))
    ∙ same_events meets core order (suc (work core)) sound h (ends_after meets core order (suc (work core)) sound h (omega arith))

-- where all hands have ended no turn is left
pub events-over : (meets : ℕ → Bool) (core : Machine) (order : List ℕ) → AllOver core → InRange core order → events meets core order ≡ 0
events-over meets core order over h =
    (stays_over meets (order ++ rounds (work core) (length core.hands)) core over
    (in_range-append core order (rounds (work core) (length core.hands)) h (in_range-rounds core (work core) (length core.hands) (omega arith)))).1

-- what a step keeps of a list of the numbers that meet
pub fits-step : (meets : List ℕ) (core : Machine) (i : ℕ) → IsMachine core → i < length core.hands → Fits meets core → Fits meets (step (is_in meets) core i)
fits-step meets core i sound within fits = by_phase (hand_at core i).phase refl
  where
    keeps : Fits meets (turned core i)
    keeps = (keeps-turned core i sound within).fits meets fits

    by_phase : (p : Phase) → (hand_at core i).phase ≡ p → Fits meets (step_in (is_in meets) core i p)
    by_phase phases.Claim e = keeps
    by_phase (phases.Look k) e = keeps
    by_phase (phases.Try k) e = fits-tried core i k (is_in meets k) meets within e refl fits
    by_phase (phases.Post k) e = keeps
    by_phase phases.Over e = keeps

pub fits-run : (meets order : List ℕ) (core : Machine) → IsMachine core → InRange core order → Fits meets core → Fits meets (run (is_in meets) core order)
fits-run meets [] core sound h fits = fits
fits-run meets (i ∷ rest) core sound h fits =
    fits-run meets rest (step (is_in meets) core i) (machine-step (is_in meets) core i sound h.0) (in_range-step (is_in meets) core i rest h.1) (fits-step meets core i sound h.0 fits)

count-step : (meets : ℕ → Bool) (core : Machine) (i : ℕ) → (step meets core i).count ≡ core.count
count-step meets core i = by_phase (hand_at core i).phase
  where
    by_phase : (p : Phase) → (step_in meets core i p).count ≡ core.count
    by_phase phases.Claim = count-turned core i
    by_phase (phases.Look k) = count-turned core i
    by_phase (phases.Try k) = refl
    by_phase (phases.Post k) = count-turned core i
    by_phase phases.Over = count-turned core i

pub count-run : (meets : ℕ → Bool) (order : List ℕ) (core : Machine) → (run meets core order).count ≡ core.count
count-run meets [] core = refl
count-run meets (i ∷ rest) core = count-run meets rest (step meets core i) ∙ count-step meets core i

-- a new machine is one, and fits each list
pub machine-opening : (count block hands : ℕ) → count ≤ 2 ^ 40 → 0 < block → block ≤ 2 ^ 20 → 0 < hands → hands ≤ 64 → IsMachine (opening count block hands)
machine-opening count block hands few positive small some_hand few_hands = record {
  count = few;
  positive = positive;
  block = small;
  some_hand = rw (length-replicate hands (fresh count block)) some_hand;
  few_hands = rw (length-replicate hands (fresh count block)) few_hands;
  least = omega arith;
  next = omega arith;
  hands = All-replicate (IsHandOf (opening count block hands)) hands (fresh count block) (record {
    count = refl;
    block = refl;
    least = omega arith;
    claimed = tt;
    sound = record { count = few; positive = positive; block = small; seen = omega arith; phase = tt };
  });
}

pub fits-opening : (count block hands : ℕ) (meets : List ℕ) → IsMeets count meets → Fits meets (opening count block hands)
fits-opening count block hands meets list = record {
  list = list;
  least = inl refl;
  posts = All-replicate (PostsMet (is_in meets)) hands (fresh count block) tt;
  covers = λ n marked below. inl (omega arith);
}

sum_by-replicate : (hands : ℕ) (hand : Standing) → work_of hand ≡ 1 → sum_by work_of (replicate hands hand) ≡ hands
sum_by-replicate zero hand one = refl
sum_by-replicate (suc n) hand one = sum_by-cons work_of hand (replicate n hand) ∙ omega (arith, one, sum_by-replicate n hand one)

pub work-opening : (count block hands : ℕ) → work (opening count block hands) ≡ 4 * count + hands
work-opening count block hands = let all = sum_by-replicate hands (fresh count block) refl in omega (arith, all)

-- the search that a law speaks of
pub opens : (count block hands : ℕ) (meets : List ℕ) → IsSearch count block hands meets → IsMachine (opening count block hands)
opens count block hands meets search = machine-opening count block hands search.count search.positive search.block search.some_hand search.few_hands

pub in_hands : (count block hands : ℕ) (order : List ℕ) → All (λ i. i < hands) order → InRange (opening count block hands) order
in_hands count block hands order within = rw (length-replicate hands (fresh count block)) (recursion_from_All (λ i. i < hands) order within)

pub ends_after_opening : (count block hands : ℕ) (meets order : List ℕ) → IsSearch count block hands meets → All (λ i. i < hands) order
    → AllOver (run (is_in meets) (opening count block hands) (order ++ rounds (work (opening count block hands)) hands))
ends_after_opening count block hands meets order search within =
    subst (λ n. AllOver (run (is_in meets) (opening count block hands) (order ++ rounds (work (opening count block hands)) n))) (length-replicate hands (fresh count block))
    (ends_after (is_in meets) (opening count block hands) order (work (opening count block hands)) (opens count block hands meets search) (in_hands count block hands order within) (omega arith))

pub same_events_opening : (count block hands : ℕ) (meets order : List ℕ) (enough : ℕ) → IsSearch count block hands meets → All (λ i. i < hands) order
    → AllOver (run (is_in meets) (opening count block hands) (order ++ rounds enough hands))
    → taken (is_in meets) (opening count block hands) (order ++ rounds enough hands) ≡ events (is_in meets) (opening count block hands) order
same_events_opening count block hands meets order enough search within =
    subst (λ n. AllOver (run (is_in meets) (opening count block hands) (order ++ rounds enough n))
    → taken (is_in meets) (opening count block hands) (order ++ rounds enough n) ≡ events (is_in meets) (opening count block hands) order) (length-replicate hands (fresh count block))
    (same_events (is_in meets) (opening count block hands) order enough (opens count block hands meets search) (in_hands count block hands order within))
