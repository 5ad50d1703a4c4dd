-- Where the hands of an order come next, from one turn to the next.
use Rattle.std.proofs.Common.{◌≡◌, ◌≢◌, ℕ, ◌<◌, ◌≤◌, Bool, true, false, List, ◌++◌, length, get_or, take, drop, refl, sym, ◌∙◌, ap, inl, inr, arith, get_or-set_other, length-set}
use Rattle.std.specs.Prelude.{All}
use Rattle.std.proofs.lemmas.Bool.{cases_Bool, cases_eq}
use Rattle.std.proofs.lemmas.List.{take_all, take-append-le}
use Rattle.search_core.specs.declared.hand.Phase.{Phase}
use Rattle.search_core.specs.declared.hand.Phase.TheVariants as phases
use Rattle.search_core.specs.Hand.{Standing, fresh, told}
use Rattle.search_core.specs.Machine.{Machine, hand_at, turned, turned_in, tried, verdict, ended_in}
use Rattle.search_core.specs.Order.{is_over, hands_of}
use Rattle.search_core.specs.Places.{AreFound, AreTurns, KnowsNext}
use Rattle.search_core.proofs.Kept.{hands-turned}

-- what is true of an order that was read, whose places were written to lists of the same length
written_all : (size : ℕ) (new old : List ℕ) → size ≡ length new → take size (new ++ drop (length new) old) ≡ new
written_all size new old long = take-append-le size new (drop (length new) old) (omega arith) ∙ take_all size new (omega arith)

pub turns_made : (order hands first next old_first old_next : List ℕ) (size long many : ℕ) → hands ≡ order → size ≡ length first → long ≡ length next
    → length first ≡ many → many ≡ hands_of order → many ≤ 64 → All (λ i. i < many) order → AreFound order first next 0
    → AreTurns hands (take size (first ++ drop (length first) old_first)) (take long (next ++ drop (length next) old_next))
turns_made order hands first next old_first old_next size long many copied is_size is_long is_many asked few each found =
    rw (written_all size first old_first is_size, written_all long next old_next is_long, copied) (record {
      found = found;
      hands = omega arith;
      few = omega arith;
      each = λ k d inside. omega (arith, each k d inside);
    })

-- what is passed over are places of hands that have ended
pub ended_between : (core : Machine) (order : List ℕ) (place now : ℕ) (next : List ℕ) → All (λ i. i < length core.hands) order
    → ((i : ℕ) → i < length core.hands → is_over core i ≡ false → now ≤ get_or next i 0)
    → KnowsNext core order place next → (k : ℕ) → place ≤ k → k < now → k < length order → is_over core (get_or order k 0) ≡ true
ended_between core order place now next each nearest knows k low high inside = elim (cases_Bool (is_over core (get_or order k 0))) [
  | inl over ↦ over
  | inr runs ↦
      let there : get_or order k 0 < length core.hands = each k 0 inside in
      absurd ((knows.comes (get_or order k 0) there runs).skips k low (omega (arith, nearest (get_or order k 0) there runs)) refl)
]

-- a hand that has ended stays so, where another has its turn
others_still : (core : Machine) (i hand : ℕ) → hand ≢ i → is_over (turned core i) hand ≡ is_over core hand
others_still core i hand other = by_phase (hand_at core i).phase
  where
    by_phase : (p : Phase) → is_over (turned_in core i (hand_at core i) p) hand ≡ is_over core hand
    by_phase phases.Claim = ap (λ (h : Standing). ended_in h.phase) (get_or-set_other core.hands i hand _ (fresh core.count core.block) other)
    by_phase (phases.Look k) = ap (λ (h : Standing). ended_in h.phase) (get_or-set_other core.hands i hand _ (fresh core.count core.block) other)
    by_phase (phases.Try k) = refl
    by_phase (phases.Post k) = ap (λ (h : Standing). ended_in h.phase) (get_or-set_other core.hands i hand _ (fresh core.count core.block) other)
    by_phase phases.Over = refl

knows_still : (core now : Machine) (order : List ℕ) (place : ℕ) (next : List ℕ) (i : ℕ) → length now.hands ≡ length core.hands → is_over core i ≡ false
    → ((hand : ℕ) → hand ≢ i → is_over now hand ≡ is_over core hand)
    → KnowsNext core order place next → KnowsNext now order place next
knows_still core now order place next i many runs others knows = record {
  long = knows.long ∙ sym many;
  within = knows.within;
  comes = λ hand there ran. elim (cases_eq hand i) [
    | inl same ↦ knows.comes hand (omega (arith, many)) (ap (is_over core) same ∙ runs)
    | inr other ↦ knows.comes hand (omega (arith, many)) (sym (others hand other) ∙ ran)
  ];
}

pub knows_turned : (core : Machine) (order : List ℕ) (place : ℕ) (next : List ℕ) (i : ℕ) → is_over core i ≡ false
    → KnowsNext core order place next → KnowsNext (turned core i) order place next
knows_turned core order place next i runs = knows_still core (turned core i) order place next i (hands-turned core i) runs (others_still core i)

pub knows_tried : (core : Machine) (order : List ℕ) (place : ℕ) (next : List ℕ) (i : ℕ) (met : Bool) → is_over core i ≡ false
    → KnowsNext core order place next → KnowsNext (tried core i met) order place next
knows_tried core order place next i met runs =
    knows_still core (tried core i met) order place next i (length-set core.hands i _) runs
    (λ hand other. ap (λ (h : Standing). ended_in h.phase) (get_or-set_other core.hands i hand (told (hand_at core i) (verdict met)) (fresh core.count core.block) other))
