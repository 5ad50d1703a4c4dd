-- The turns that are left of an order and of a round.
use Rattle.std.proofs.Common.{zero, suc, add-one, ◌≡◌, ℕ, ◌+◌, ◌-◌, ◌*◌, ◌^◌, ◌<◌, ◌≤◌, Bool, true, false, Option, List, [], ◌∷◌, ◌++◌, length, get_or, drop, refl, sym, ◌∙◌, ap, subst, inl, inr, arith, drop-cons, length-set}
use Rattle.std.specs.Prelude.{All}
use Rattle.std.proofs.lemmas.Bool.{cases_lt}
use Rattle.std.proofs.lemmas.List.{drop_all, length-replicate}
use Rattle.std.proofs.lemmas.List.Elements.{recursion_from_All, All-drop}
use Rattle.search_core.specs.Machine.{Machine, opening, hand_at, turned, turn_in, tried, verdict, step, step_in, ended_in, AllOver, IsMachine, Covers, Fits, is_in, work}
use Rattle.search_core.specs.Numbers.{first_of}
use Rattle.search_core.specs.Hand.{Standing, fresh, told, IsTry, number_in}
use Rattle.search_core.specs.declared.hand.Phase.{Phase}
use Rattle.search_core.specs.declared.hand.Phase.TheVariants as phases
use Rattle.search_core.specs.declared.machine.Turn.TheVariants as turns
use Rattle.search_core.specs.Order.{numbers_from, is_over, events, greatest, hands_of, events_of, hand_next, number_next, AsksIn, Asks, Progress, Follows}
use Rattle.search_core.specs.Trail.{HaveTried, TriesNow}
use Rattle.search_core.specs.Dues.{left_to}
use Rattle.search_core.specs.Keeps.{KeepsOn, Carries}
use Rattle.search_core.specs.Places.{ComesNext, KnowsNext}
use Rattle.search_core.specs.Schedules.{left_of, IsSchedule, RunsNext}
use Rattle.search_core.proofs.Steps.{keeps-turned, fits-tried, covers-tried, over-first, try_phase}
use Rattle.search_core.proofs.Kept.{hands-turned, keeps_on-turned, keeps_on-same, keeps_on-both, have_tried-tried, left_to-tried}
use Rattle.search_core.proofs.Coming.{knows_turned, knows_tried}
use Rattle.search_core.proofs.Runs.{InRange, events-over, in_range-append, in_range-numbers, events-step, events-before_round, events-skip, events-round}

-- one more place
left-next : (order : List ℕ) (place at hands : ℕ) → place < length order → left_of order place at hands ≡ get_or order place 0 ∷ left_of order (place + 1) at hands
left-next order place at hands within = rw (add-one, drop-cons order place 0) refl

left-end : (order : List ℕ) (place at hands : ℕ) → length order ≤ place → left_of order place at hands ≡ numbers_from at (hands - at)
left-end order place at hands past = rw (drop_all place order past) refl

round-next : (at hands : ℕ) → at < hands → numbers_from at (hands - at) ≡ at ∷ numbers_from (at + 1) (hands - (at + 1))
round-next at hands within = let one : hands - at ≡ suc (hands - (at + 1)) = omega arith in rw one refl

-- the hands that are passed over have ended
pub order_passed : (core : Machine) (order : List ℕ) (at : ℕ) (meets : ℕ → Bool) (n place : ℕ)
    → ((k : ℕ) → place ≤ k → k < place + n → k < length order → is_over core (get_or order k 0) ≡ true)
    → events meets core (left_of order (place + n) at (length core.hands)) ≡ events meets core (left_of order place at (length core.hands))
order_passed core order at meets zero place passed = ap (λ p. events meets core (left_of order p at (length core.hands))) (omega arith)
order_passed core order at meets (suc n) place passed = elim (cases_lt place (length order)) [
  | inl within ↦
      let more : place + suc n ≡ (place + 1) + n = omega arith in
      let rest = order_passed core order at meets n (place + 1) (λ k low high inside. passed k (omega arith) (omega arith) inside) in
      ap (λ p. events meets core (left_of order p at (length core.hands))) more ∙ rest
      ∙ sym (events-skip meets core (get_or order place 0) (left_of order (place + 1) at (length core.hands)) (passed place (omega arith) (omega arith) within))
      ∙ sym (ap (events meets core) (left-next order place at (length core.hands) within))
  | inr past ↦ ap (events meets core) (left-end order (place + suc n) at (length core.hands) (omega arith) ∙ sym (left-end order place at (length core.hands) past))
]

pub round_passed : (core : Machine) (meets : ℕ → Bool) (n at : ℕ) → at + n ≤ length core.hands
    → ((k : ℕ) → at ≤ k → k < at + n → is_over core k ≡ true)
    → events meets core (numbers_from (at + n) (length core.hands - (at + n))) ≡ events meets core (numbers_from at (length core.hands - at))
round_passed core meets zero at within passed = ap (λ p. events meets core (numbers_from p (length core.hands - p))) (omega arith)
round_passed core meets (suc n) at within passed =
    let more : at + suc n ≡ (at + 1) + n = omega arith in
    let rest = round_passed core meets n (at + 1) (omega arith) (λ k low high. passed k (omega arith) (omega arith)) in
    ap (λ p. events meets core (numbers_from p (length core.hands - p))) more ∙ rest
    ∙ sym (events-skip meets core at (numbers_from (at + 1) (length core.hands - (at + 1))) (passed at (omega arith) (omega arith)))
    ∙ sym (ap (events meets core) (round-next at (length core.hands) (omega arith)))

pub place_passed : (core : Machine) (order : List ℕ) (at : ℕ) (meets : ℕ → Bool) (place now : ℕ) → place ≤ now
    → ((k : ℕ) → place ≤ k → k < now → k < length order → is_over core (get_or order k 0) ≡ true)
    → events meets core (left_of order now at (length core.hands)) ≡ events meets core (left_of order place at (length core.hands))
place_passed core order at meets place now later passed =
    let sum : place + (now - place) ≡ now = omega arith in
    ap (λ p. events meets core (left_of order p at (length core.hands))) (sym sum)
    ∙ order_passed core order at meets (now - place) place (λ k low high. passed k low (omega arith))

pub hand_passed : (core : Machine) (meets : ℕ → Bool) (at now : ℕ) → at ≤ now → now ≤ length core.hands
    → ((k : ℕ) → at ≤ k → k < now → is_over core k ≡ true)
    → events meets core (numbers_from now (length core.hands - now)) ≡ events meets core (numbers_from at (length core.hands - at))
hand_passed core meets at now later within passed =
    let sum : at + (now - at) ≡ now = omega arith in
    ap (λ p. events meets core (numbers_from p (length core.hands - p))) (sym sum)
    ∙ round_passed core meets (now - at) at (omega arith) (λ k low high. passed k low (omega arith))

-- where a round has come to its end the next one begins
pub hand_passed_round : (core : Machine) (meets : ℕ → Bool) (at end now : ℕ) → IsMachine core → at ≤ end → end ≡ length core.hands → now ≤ length core.hands
    → ((k : ℕ) → at ≤ k → k < end → is_over core k ≡ true) → ((k : ℕ) → 0 ≤ k → k < now → is_over core k ≡ true)
    → events meets core (numbers_from now (length core.hands - now)) ≡ events meets core (numbers_from at (length core.hands - at))
hand_passed_round core meets at end now sound later ends within passed passed_next =
    let none : length core.hands - end ≡ 0 = omega arith in
    let whole : length core.hands - 0 ≡ length core.hands = omega arith in
    hand_passed core meets 0 now (omega arith) within passed_next
    ∙ ap (λ n. events meets core (numbers_from 0 n)) whole
    ∙ sym (events-round meets core sound)
    ∙ sym (ap (λ n. events meets core (numbers_from end n)) none)
    ∙ hand_passed core meets at end later (omega arith) passed

pub greatest_bounds : (order : List ℕ) (k d : ℕ) → k < length order → get_or order k d ≤ greatest order
greatest_bounds [] k d within = absurd (omega arith)
greatest_bounds (x ∷ xs) zero d within = omega arith
greatest_bounds (x ∷ xs) (suc k) d within = omega (arith, greatest_bounds xs k d (omega arith))

-- where the same turns are left, all is kept
pub carries_same : (old now : Progress) → now.core ≡ old.core → now.taken ≡ old.taken
    → ((meets : ℕ → Bool) → events meets now.core now.left ≡ events meets old.core old.left) → Carries old now
carries_same old now core taken turns = record {
  follows = λ meets all h. record {
    fits = rw core h.fits;
    turns = omega (arith, h.turns, turns (is_in meets));
  };
  core = keeps_on-same old.core now.core core;
}

-- the hand that an order and a round name next
pub next_of_order : (order : List ℕ) (place at hands : ℕ) → place < length order
    → (0 < length (left_of order place at hands)) × (get_or (left_of order place at hands) 0 0 ≡ get_or order place 0)
next_of_order order place at hands within = rw (left-next order place at hands within) (omega arith, refl)

pub next_of_round : (order : List ℕ) (place at hands : ℕ) → length order ≤ place → at < hands
    → (0 < length (left_of order place at hands)) × (get_or (left_of order place at hands) 0 0 ≡ at)
next_of_round order place at hands past within = rw (left-end order place at hands past, round-next at hands within) (omega arith, refl)

pub pass_order : (order : List ℕ) (place at hands : ℕ) → place < length order → left_of order (place + 1) at hands ≡ drop 1 (left_of order place at hands)
pass_order order place at hands within = rw (left-next order place at hands within) refl

pub pass_round : (order : List ℕ) (place at hands : ℕ) → length order ≤ place → 0 < length (left_of order place at hands)
    → left_of order place (at + 1) hands ≡ drop 1 (left_of order place at hands)
pass_round order place at hands past some_hand = elim (cases_lt at hands) [
  | inl within ↦ left-end order place (at + 1) hands past ∙ sym (ap (drop 1) (left-end order place at hands past ∙ round-next at hands within))
  | inr none ↦ absurd (nothing (left-end order place at hands past) none)
]
  where
    nothing : left_of order place at hands ≡ numbers_from at (hands - at) → hands ≤ at → ⊥
    nothing is done =
        let zero_left : hands - at ≡ 0 = omega arith in
        let empty : length (left_of order place at hands) ≡ 0 = ap length (is ∙ ap (numbers_from at) zero_left) in
        omega (arith, empty)

pub front_of_round : (old : Progress) (core : Machine) (order : List ℕ) (place at taken : ℕ)
    → (let now : Progress = record { core = core; left = left_of order place at (length core.hands); taken = taken } in now ≡ old)
    → length order ≤ place → 0 < length old.left → at ≡ hand_next old
front_of_round old core order place at taken same past =
    subst (λ (p : Progress). 0 < length p.left → at ≡ hand_next p) same (λ some_hand. elim (cases_lt at (length core.hands)) [
      | inl within ↦ sym (next_of_round order place at (length core.hands) past within).1
      | inr none ↦
          let zero_left : length core.hands - at ≡ 0 = omega arith in
          let empty : length (left_of order place at (length core.hands)) ≡ 0 = ap length (left-end order place at (length core.hands) past ∙ ap (numbers_from at) zero_left) in
          absurd (omega (arith, empty))
    ])

-- what is left after a turn was counted, of a schedule that is seen as old
pub passed_order : (old : Progress) (core : Machine) (order : List ℕ) (place at taken : ℕ)
    → (let now : Progress = record { core = core; left = left_of order place at (length core.hands); taken = taken } in now ≡ old)
    → place < length order
    → (let now : Progress = record { core = core; left = left_of order (place + 1) at (length core.hands); taken = taken + 1 } in now ≡ record old { left = drop 1 old.left; taken = old.taken + 1 })
passed_order old core order place at taken same within =
    subst (λ (p : Progress). let now : Progress = record { core = core; left = left_of order (place + 1) at (length core.hands); taken = taken + 1 } in now ≡ record p { left = drop 1 p.left; taken = p.taken + 1 }) same
    (ap (λ (xs : List ℕ). let now : Progress = record { core = core; left = xs; taken = taken + 1 } in now) (pass_order order place at (length core.hands) within))

pub passed_round : (old : Progress) (core : Machine) (order : List ℕ) (place at taken : ℕ)
    → (let now : Progress = record { core = core; left = left_of order place at (length core.hands); taken = taken } in now ≡ old)
    → length order ≤ place → 0 < length old.left
    → (let now : Progress = record { core = core; left = left_of order place (at + 1) (length core.hands); taken = taken + 1 } in now ≡ record old { left = drop 1 old.left; taken = old.taken + 1 })
passed_round old core order place at taken same past some_hand =
    subst (λ (p : Progress). 0 < length p.left → (let now : Progress = record { core = core; left = left_of order place (at + 1) (length core.hands); taken = taken + 1 } in now ≡ record p { left = drop 1 p.left; taken = p.taken + 1 })) same
    (λ h. ap (λ (xs : List ℕ). let now : Progress = record { core = core; left = xs; taken = taken + 1 } in now) (pass_round order place at (length core.hands) past h)) some_hand

-- a new schedule
pub new_follows : (count block hands : ℕ) (core : Machine) (order items meets : List ℕ) → core ≡ opening count block hands → hands ≡ hands_of order → items ≡ order
    → IsMachine core → All (λ i. i < hands) order → Fits meets core
    → (let now : Progress = record { core = core; left = left_of items 0 0 (length core.hands); taken = 0 } in Follows meets (events_of count block meets order) now)
new_follows count block hands core order items meets opened asked copied sound each fits =
    let many : length core.hands ≡ hands = ap (λ (m : Machine). length m.hands) opened ∙ length-replicate hands (fresh count block) in
    let within : All (λ i. i < length core.hands) items = rw copied (λ k d inside. omega (arith, each k d inside, many)) in
    let whole : length core.hands - 0 ≡ length core.hands = omega arith in
    let round : events (is_in meets) core (items ++ numbers_from 0 (length core.hands - 0)) ≡ events (is_in meets) core items =
    ap (λ n. events (is_in meets) core (items ++ numbers_from 0 n)) whole ∙ events-before_round (is_in meets) core items sound (recursion_from_All (λ i. i < length core.hands) items within) in
    let same : events (is_in meets) core items ≡ events_of count block meets order =
    ap (events (is_in meets) core) copied ∙ ap (λ (m : Machine). events (is_in meets) m order) opened ∙ ap (λ n. events (is_in meets) (opening count block n) order) asked in
    record { fits = fits; turns = omega (arith, round, same) }

pub new_schedule : (count block hands : ℕ) (core : Machine) (order next : List ℕ) → core ≡ opening count block hands → hands ≡ hands_of order
    → IsMachine core → work core ≡ 4 * count + hands → count ≤ 2 ^ 40 → hands ≤ 64 → All (λ i. i < hands) order
    → length next ≡ hands_of order → ((hand : ℕ) → hand < hands_of order → ComesNext order hand 0 (get_or next hand 0))
    → IsSchedule core order 0 0 × KnowsNext core order 0 next
new_schedule count block hands core order next opened asked sound left bounded few each long comes =
    let many : length core.hands ≡ hands = ap (λ (m : Machine). length m.hands) opened ∙ length-replicate hands (fresh count block) in (
      record {
        sound = sound;
        hands = λ k d inside. omega (arith, each k d inside, many);
        round = omega arith;
        few = omega arith;
      },
      record {
        long = omega (arith, many);
        within = omega arith;
        comes = λ hand there _. comes hand (omega (arith, many));
      },
    )

-- the hand that comes next, where the order has come to its end
pub round_runs : (core : Machine) (order : List ℕ) (place at taken : ℕ) → length order ≤ place → at < length core.hands → is_over core at ≡ false
    → (let now : Progress = record { core = core; left = left_of order place at (length core.hands); taken = taken } in RunsNext now)
round_runs core order place at taken past within running =
    let next = next_of_round order place at (length core.hands) past within in
    record { some_hand = next.0; hand = omega (arith, next.1); running = rw next.1 running }

-- all turns that are left are turns of hands that there are
left_in_range : (core : Machine) (order : List ℕ) (place at : ℕ) → All (λ i. i < length core.hands) order → at ≤ length core.hands → InRange core (left_of order place at (length core.hands))
left_in_range core order place at each within =
    in_range-append core (drop place order) (numbers_from at (length core.hands - at))
    (recursion_from_All (λ i. i < length core.hands) (drop place order) (All-drop (λ i. i < length core.hands) place order each))
    (in_range-numbers core (length core.hands - at) at (omega arith))

-- the next turn counts once
turn_counts : (meets : ℕ → Bool) (core : Machine) (left : List ℕ) → IsMachine core → InRange core left → 0 < length left → is_over core (get_or left 0 0) ≡ false
    → events meets core left ≡ 1 + events meets (step meets core (get_or left 0 0)) (drop 1 left)
turn_counts meets core [] sound h some_hand running = absurd (omega arith)
turn_counts meets core (i ∷ rest) sound h some_hand running = events-step meets core i rest sound h.0 h.1 running

next_follows : (core : Machine) (order : List ℕ) (place at taken : ℕ) (meets : List ℕ) (all : ℕ) (next : Machine) → IsSchedule core order at taken
    → 0 < length (left_of order place at (length core.hands)) → is_over core (get_or (left_of order place at (length core.hands)) 0 0) ≡ false
    → next ≡ step (is_in meets) core (get_or (left_of order place at (length core.hands)) 0 0) → length next.hands ≡ length core.hands → Fits meets next
    → (let old : Progress = record { core = core; left = left_of order place at (length core.hands); taken = taken } in Follows meets all old)
    → (let now : Progress = record { core = next; left = drop 1 (left_of order place at (length next.hands)); taken = taken + 1 } in Follows meets all now)
next_follows core order place at taken meets all next is some_hand running steps many fits h =
    let counted = turn_counts (is_in meets) core (left_of order place at (length core.hands)) is.sound (left_in_range core order place at is.hands is.round) some_hand running in
    let same : events (is_in meets) next (drop 1 (left_of order place at (length next.hands))) ≡ events (is_in meets) (step (is_in meets) core (get_or (left_of order place at (length core.hands)) 0 0)) (drop 1 (left_of order place at (length core.hands))) =
    ap (λ (m : Machine). events (is_in meets) m (drop 1 (left_of order place at (length next.hands)))) steps
    ∙ ap (λ n. events (is_in meets) (step (is_in meets) core (get_or (left_of order place at (length core.hands)) 0 0)) (drop 1 (left_of order place at n))) many in
    record { fits = fits; turns = omega (arith, h.turns, counted, same) }

step-did : (meets : ℕ → Bool) (core : Machine) (i : ℕ) (p : Phase) → turn_in p ≡ turns.Did → turned core i ≡ step_in meets core i p
step-did meets core i phases.Claim did = refl
step-did meets core i (phases.Look k) did = refl
step-did meets core i (phases.Try k) did = absurd (cc)
step-did meets core i (phases.Post k) did = refl
step-did meets core i phases.Over did = absurd (cc)

step-tries : (meets : List ℕ) (core : Machine) (i : ℕ) (met : Bool) (p : Phase) → IsTry p → met ≡ is_in meets (number_in p) → tried core i met ≡ step_in (is_in meets) core i p
step-tries meets core i met phases.Claim tries says = absurd tries
step-tries meets core i met (phases.Look k) tries says = absurd tries
step-tries meets core i met (phases.Try k) tries says = ap (tried core i) says
step-tries meets core i met (phases.Post k) tries says = absurd tries
step-tries meets core i met phases.Over tries says = absurd tries

try_runs : (p : Phase) → IsTry p → ended_in p ≡ false
try_runs phases.Claim tries = refl
try_runs (phases.Look k) tries = refl
try_runs (phases.Try k) tries = refl
try_runs (phases.Post k) tries = refl
try_runs phases.Over tries = absurd tries

-- what a counted turn keeps, of a schedule that is seen as old
pub turn_carries : (old now : Progress) (core next : Machine) (order : List ℕ) (place at taken hand : ℕ)
    → (let seen : Progress = record { core = core; left = left_of order place at (length core.hands); taken = taken } in seen ≡ old)
    → IsSchedule core order at taken → RunsNext old → hand ≡ hand_next old → turns.Did ≡ turn_in (hand_at core hand).phase → next ≡ turned core hand
    → (let made : Progress = record { core = next; left = drop 1 (left_of order place at (length next.hands)); taken = taken + 1 } in now ≡ made)
    → Carries old now
turn_carries old now core next order place at taken hand same is =
    subst (λ (p : Progress). RunsNext p → hand ≡ hand_next p → turns.Did ≡ turn_in (hand_at core hand).phase → next ≡ turned core hand
    → (let made : Progress = record { core = next; left = drop 1 (left_of order place at (length next.hands)); taken = taken + 1 } in now ≡ made) → Carries p now) same
    (λ runs comes did turns_to made. subst (λ (p : Progress). (let seen : Progress = record { core = core; left = left_of order place at (length core.hands); taken = taken } in Carries seen p)) (sym made) (carried runs comes did turns_to))
  where
    carried : (let seen : Progress = record { core = core; left = left_of order place at (length core.hands); taken = taken } in RunsNext seen) → hand ≡ get_or (left_of order place at (length core.hands)) 0 0
        → turns.Did ≡ turn_in (hand_at core hand).phase → next ≡ turned core hand
        → (let seen : Progress = record { core = core; left = left_of order place at (length core.hands); taken = taken } in let made : Progress = record { core = next; left = drop 1 (left_of order place at (length next.hands)); taken = taken + 1 } in Carries seen made)
    carried runs comes did turns_to =
        let i = get_or (left_of order place at (length core.hands)) 0 0 in
        let did' : turn_in (hand_at core i).phase ≡ turns.Did = sym (did ∙ ap (λ n. turn_in (hand_at core n).phase) comes) in
        let to : next ≡ turned core i = turns_to ∙ ap (turned core) comes in
        let many : length next.hands ≡ length core.hands = ap (λ (m : Machine). length m.hands) to ∙ hands-turned core i in
        let keeps = keeps-turned core i is.sound runs.hand in
        record {
          follows = λ meets all h. next_follows core order place at taken meets all next is runs.some_hand runs.running
              (to ∙ step-did (is_in meets) core i (hand_at core i).phase did') many (subst (λ (m : Machine). Fits meets m) (sym to) (keeps.fits meets h.fits)) h;
          core = subst (λ (m : Machine). KeepsOn core m) (sym to) (keeps_on-turned core i is.sound runs.hand did');
        }

front_asks : (core : Machine) (left : List ℕ) → AsksIn core left → (0 < length left) × IsTry (hand_at core (get_or left 0 0)).phase
front_asks core [] h = absurd h
front_asks core (i ∷ rest) h = (omega arith, h)

pub try_follows : (old now : Progress) (core next : Machine) (order : List ℕ) (place at taken hand : ℕ) (met : Bool)
    → (let seen : Progress = record { core = core; left = left_of order place at (length core.hands); taken = taken } in seen ≡ old)
    → IsSchedule core order at taken → Asks old → hand ≡ hand_next old → hand < length old.core.hands → next ≡ tried core hand met
    → (let made : Progress = record { core = next; left = drop 1 (left_of order place at (length next.hands)); taken = taken + 1 } in now ≡ made)
    → (meets : List ℕ) (all : ℕ) → met ≡ is_in meets (number_next old) → Follows meets all old → Follows meets all now
try_follows old now core next order place at taken hand met same is =
    subst (λ (p : Progress). Asks p → hand ≡ hand_next p → hand < length p.core.hands → next ≡ tried core hand met
    → (let made : Progress = record { core = next; left = drop 1 (left_of order place at (length next.hands)); taken = taken + 1 } in now ≡ made)
    → (meets : List ℕ) (all : ℕ) → met ≡ is_in meets (number_next p) → Follows meets all p → Follows meets all now) same
    (λ asks comes within tries_to made meets all says h. subst (λ (p : Progress). Follows meets all p) (sym made) (followed asks comes within tries_to meets all says h))
  where
    followed : AsksIn core (left_of order place at (length core.hands)) → hand ≡ get_or (left_of order place at (length core.hands)) 0 0 → hand < length core.hands → next ≡ tried core hand met
        → (meets : List ℕ) (all : ℕ) → met ≡ is_in meets (number_in (hand_at core (get_or (left_of order place at (length core.hands)) 0 0)).phase)
        → (let seen : Progress = record { core = core; left = left_of order place at (length core.hands); taken = taken } in Follows meets all seen)
        → (let made : Progress = record { core = next; left = drop 1 (left_of order place at (length next.hands)); taken = taken + 1 } in Follows meets all made)
    followed asks comes within tries_to meets all says h =
        let i = get_or (left_of order place at (length core.hands)) 0 0 in
        let asked = front_asks core (left_of order place at (length core.hands)) asks in
        let to : next ≡ tried core i met = tries_to ∙ ap (λ n. tried core n met) comes in
        let many : length next.hands ≡ length core.hands = ap (λ (m : Machine). length m.hands) to ∙ length-set core.hands i _ in
        let phase = try_phase (hand_at core i).phase asked.1 in
        next_follows core order place at taken meets all next is asked.0 (try_runs (hand_at core i).phase asked.1)
        (to ∙ step-tries meets core i met (hand_at core i).phase asked.1 says) many
        (subst (λ (m : Machine). Fits meets m) (sym to) (fits-tried core i (number_in (hand_at core i).phase) met meets (omega (arith, comes)) phase says h.fits)) h

pub try_covers : (old now : Progress) (core next : Machine) (order : List ℕ) (place at taken hand : ℕ) (met : Bool)
    → (let seen : Progress = record { core = core; left = left_of order place at (length core.hands); taken = taken } in seen ≡ old)
    → Asks old → hand ≡ hand_next old → hand < length old.core.hands → next ≡ tried core hand met
    → (let made : Progress = record { core = next; left = drop 1 (left_of order place at (length next.hands)); taken = taken + 1 } in now ≡ made)
    → (left : ℕ → Bool) → (met ≡ false → left (number_next old) ≡ false) → Covers left old.core → Covers left now.core
try_covers old now core next order place at taken hand met same =
    subst (λ (p : Progress). Asks p → hand ≡ hand_next p → hand < length p.core.hands → next ≡ tried core hand met
    → (let made : Progress = record { core = next; left = drop 1 (left_of order place at (length next.hands)); taken = taken + 1 } in now ≡ made)
    → (left : ℕ → Bool) → (met ≡ false → left (number_next p) ≡ false) → Covers left p.core → Covers left now.core) same
    (λ asks comes within tries_to made left misses h.
    let i = get_or (left_of order place at (length core.hands)) 0 0 in
    let asked = front_asks core (left_of order place at (length core.hands)) asks in
    let to : now.core ≡ tried core i met = ap (λ (p : Progress). p.core) made ∙ tries_to ∙ ap (λ n. tried core n met) comes in
    subst (λ (m : Machine). Covers left m) (sym to)
    (covers-tried core i (number_in (hand_at core i).phase) met left (omega (arith, comes)) (try_phase (hand_at core i).phase asked.1) misses h))

-- the machine after a try that was answered, and what that keeps
pub try_core : (old now : Progress) (core next : Machine) (order : List ℕ) (place at taken hand : ℕ) (met : Bool)
    → (let seen : Progress = record { core = core; left = left_of order place at (length core.hands); taken = taken } in seen ≡ old)
    → hand ≡ hand_next old → next ≡ tried core hand met
    → (let made : Progress = record { core = next; left = drop 1 (left_of order place at (length next.hands)); taken = taken + 1 } in now ≡ made)
    → now.core ≡ tried old.core (hand_next old) met
try_core old now core next order place at taken hand met same comes tries_to made =
    ap (λ (p : Progress). p.core) made ∙ tries_to ∙ ap (λ n. tried core n met) comes ∙ ap (λ (p : Progress). tried p.core (hand_next old) met) same

pub try_tried : (old now : Progress) (met : Bool) → IsMachine old.core → Asks old → hand_next old < length old.core.hands → now.core ≡ tried old.core (hand_next old) met
    → (last after : ℕ → Option ℕ) → TriesNow (hand_next old) (number_next old) last after → HaveTried last old.core → HaveTried after now.core
try_tried old now met sound asks within to last after tries h =
    let asked = front_asks old.core old.left asks in
    subst (λ (m : Machine). HaveTried after m) (sym to)
    (have_tried-tried old.core (hand_next old) (number_next old) met last after sound within (try_phase (hand_at old.core (hand_next old)).phase asked.1) tries h)

pub try_left : (old now : Progress) (met : Bool) → hand_next old < length old.core.hands → now.core ≡ tried old.core (hand_next old) met → (left : Standing → ℕ)
    → left_to left now.core + left (hand_at old.core (hand_next old)) ≡ left_to left old.core + left (told (hand_at old.core (hand_next old)) (verdict met))
try_left old now met within to left =
    subst (λ (m : Machine). left_to left m + left (hand_at old.core (hand_next old)) ≡ left_to left old.core + left (told (hand_at old.core (hand_next old)) (verdict met))) (sym to)
    (left_to-tried left old.core (hand_next old) met within)

-- the number of the hand that is to try one
pub asks_phase : (search : Progress) → Asks search → (hand_at search.core (hand_next search)).phase ≡ phases.Try (number_next search)
asks_phase search asks = try_phase (hand_at search.core (hand_next search)).phase (front_asks search.core search.left asks).1

-- what is kept from one moment to the next is kept over both
pub carries_on : (a b c : Progress) → Carries a b → Carries b c → Carries a c
carries_on a b c first second = record {
  follows = λ meets all h. second.follows meets all (first.follows meets all h);
  core = keeps_on-both a.core b.core c.core first.core second.core;
}

-- where all hands have ended, and nothing is left of the order and of the round
pub nothing_left : (core : Machine) (order : List ℕ) (place at : ℕ) (meets : ℕ → Bool) → AllOver core → length order ≤ place → at ≡ length core.hands
    → events meets core (left_of order place at (length core.hands)) ≡ 0
nothing_left core order place at meets over past whole =
    let none : length core.hands - at ≡ 0 = omega arith in
    ap (events meets core) (left-end order place at (length core.hands) past ∙ ap (numbers_from at) none) ∙ events-over meets core [] over tt

pub all_done : (search : Progress) (meets : List ℕ) (all : ℕ) → IsMachine search.core → AllOver search.core → events (is_in meets) search.core search.left ≡ 0 → Follows meets all search
    → (search.taken ≡ all) × (search.core.least ≡ first_of search.core.count meets)
all_done search meets all sound over none h = (omega (arith, h.turns, none), over-first search.core meets sound over h.fits)

-- what is true of a schedule is true after a turn, and after a try
keeps_schedule : (core next : Machine) (order : List ℕ) (at taken : ℕ) → length next.hands ≡ length core.hands → IsMachine next → work next ≤ work core
    → IsSchedule core order at taken → IsSchedule next order at taken
keeps_schedule core next order at taken many sound less is = record {
  sound = sound;
  hands = λ k d inside. omega (arith, is.hands k d inside, many);
  round = omega (arith, is.round, many);
  few = omega (arith, is.few);
}

pub turned_still : (old : Progress) (core next : Machine) (order places : List ℕ) (place at taken hand : ℕ)
    → (let seen : Progress = record { core = core; left = left_of order place at (length core.hands); taken = taken } in seen ≡ old)
    → IsSchedule core order at taken → KnowsNext core order place places → RunsNext old → hand ≡ hand_next old → next ≡ turned core hand
    → IsMachine next → work next ≤ work core → IsSchedule next order at taken × KnowsNext next order place places
turned_still old core next order places place at taken hand same is knows =
    subst (λ (p : Progress). RunsNext p → hand ≡ hand_next p → next ≡ turned core hand
    → IsMachine next → work next ≤ work core → IsSchedule next order at taken × KnowsNext next order place places) same
    (λ runs comes to sound less.
    let running : is_over core hand ≡ false = ap (is_over core) comes ∙ runs.running in (
      keeps_schedule core next order at taken (ap (λ (m : Machine). length m.hands) to ∙ hands-turned core hand) sound less is,
      subst (λ (m : Machine). KnowsNext m order place places) (sym to) (knows_turned core order place places hand running knows),
    ))

pub tried_still : (old : Progress) (core next : Machine) (order places : List ℕ) (place at taken hand : ℕ) (met : Bool)
    → (let seen : Progress = record { core = core; left = left_of order place at (length core.hands); taken = taken } in seen ≡ old)
    → IsSchedule core order at taken → KnowsNext core order place places → Asks old → hand ≡ hand_next old → next ≡ tried core hand met
    → IsMachine next → work next ≤ work core → IsSchedule next order at taken × KnowsNext next order place places
tried_still old core next order places place at taken hand met same is knows =
    subst (λ (p : Progress). Asks p → hand ≡ hand_next p → next ≡ tried core hand met
    → IsMachine next → work next ≤ work core → IsSchedule next order at taken × KnowsNext next order place places) same
    (λ asks comes to sound less.
    let left = left_of order place at (length core.hands) in
    let running : is_over core hand ≡ false = ap (is_over core) comes ∙ try_runs (hand_at core (get_or left 0 0)).phase (front_asks core left asks).1 in (
      keeps_schedule core next order at taken (ap (λ (m : Machine). length m.hands) to ∙ length-set core.hands hand (told (hand_at core hand) (verdict met))) sound less is,
      subst (λ (m : Machine). KnowsNext m order place places) (sym to) (knows_tried core order place places hand met running knows),
    ))
