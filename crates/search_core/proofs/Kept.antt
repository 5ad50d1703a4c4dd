-- What the machine keeps as its hands take their turns: which numbers were tried last, and what is left to the hands.
use Rattle.std.proofs.Common.{add-one, ◌≡◌, ◌≢◌, ℕ, ◌+◌, ◌*◌, ◌<◌, ◌≤◌, Bool, true, false, min, Option, Some, None, List, length, get_or, set, refl, sym, ◌∙◌, subst, inl, inr, arith, get_or-set_other, get_or-set_same, length-set}
use Rattle.std.specs.Prelude.{IfSome, sum_by}
use Rattle.std.proofs.Math.Nat.{mul-le-mul_right}
use Rattle.std.proofs.lemmas.Bool.{cases_eq, cases_lt, lt-ltb, le-ltb, eq-eqb, ne_eqb}
use Rattle.std.proofs.lemmas.List.Sums.{sum_by-set}
use Rattle.search_core.specs.declared.hand.Phase.{Phase}
use Rattle.search_core.specs.declared.hand.Phase.TheVariants as phases
use Rattle.search_core.specs.declared.hand.Answer.TheVariants as answers
use Rattle.search_core.specs.declared.machine.Turn.TheVariants as turns
use Rattle.search_core.specs.Numbers.{first_of, sum_below}
use Rattle.search_core.specs.Hand.{Standing, fresh, told, end_at, open_end, IsHand, InOpen}
use Rattle.search_core.specs.Machine.{Machine, hand_at, turned, turned_in, turn_in, verdict, tried, IsMachine, IsHandOf, Fits}
use Rattle.search_core.specs.Trail.{ComesTo, HasTriedIn, HasTried, HaveTried, TriesNow}
use Rattle.search_core.specs.Dues.{IsHandFor, AddsNoMore, LosesNone, GrowsByAtMost, GrowsByAtLeast, left_to}
use Rattle.search_core.specs.Keeps.{KeepsOn}
use Rattle.search_core.proofs.Steps.{hand_of, keeps-turned, count-turned, work-turned, first_is_least, first_is_in}

-- the numbers of a block that is claimed are above those of the block before it
below_start : (last claimed : Option ℕ) (count block n : ℕ) → IfSome claimed (λ m. m < n) → IfSome last (λ j. j < end_at count block claimed)
    → IfSome last (λ j. j < n * block)
below_start None claimed count block n above h = tt
below_start (Some j) None count block n above h = absurd (omega (arith, h))
below_start (Some j) (Some m) count block n above h =
    let more : (m + 1) * block ≤ n * block = mul-le-mul_right block (omega arith) in
    omega (arith, h)

below_end : (last : Option ℕ) (k end : ℕ) → k < end → IfSome last (λ j. j < k) → IfSome last (λ j. j < end)
below_end None k end within h = tt
below_end (Some j) k end within h = omega (arith, h)

-- the rows of the table
pub claim_tried : (last : Option ℕ) (hand : Standing) (n : ℕ) → hand.phase ≡ phases.Claim → IfSome hand.last (λ m. m < n) → HasTried last hand
    → HasTried last (told hand (answers.Block n))
claim_tried last hand n e above h =
    let before : IfSome last (λ j. j < open_end hand) = rw e at h in
    elim (cases_lt (n * hand.block) hand.seen) [
      | inl below ↦ let t = lt-ltb (n * hand.block) hand.seen below in
          rw (e, t) (record { above = below_start last hand.last hand.count hand.block n above before; next = inl refl })
      | inr over ↦ let t = le-ltb (n * hand.block) hand.seen over in rw (e, t) tt
    ]

pub look_tried : (last : Option ℕ) (hand : Standing) (k v : ℕ) → hand.phase ≡ phases.Look k → IsHand hand → HasTried last hand
    → HasTried last (told hand (answers.Least v))
look_tried last hand k v e sound h =
    let comes : ComesTo last hand k = subst (λ (p : Phase). HasTriedIn last hand p) e h in
    let inside : InOpen hand k = rw e at sound.phase in
    elim (cases_lt k (min hand.seen v)) [
      | inl below ↦ let t = lt-ltb k (min hand.seen v) below in rw (e, t) (record { above = comes.above; next = comes.next })
      | inr over ↦ let t = le-ltb k (min hand.seen v) over in rw (e, t) (below_end last k (open_end hand) inside.1 comes.above)
    ]

pub miss_tried : (hand : Standing) (k : ℕ) → hand.phase ≡ phases.Try k → IsHand hand → HasTried (Some k) (told hand answers.Missed)
miss_tried hand k e sound =
    let known : InOpen hand k × (k < hand.seen) = rw e at sound.phase in
    elim (cases_eq (k + 1) (open_end hand)) [
      | inl last ↦ let t = eq-eqb (k + 1) (open_end hand) last in rw (e, t) (known.0.1)
      | inr more ↦ let t = ne_eqb (k + 1) (open_end hand) more in rw (e, t) (record { above = omega arith; next = inr refl })
    ]

pub meet_tried : (hand : Standing) (k : ℕ) → hand.phase ≡ phases.Try k → IsHand hand → HasTried (Some k) (told hand answers.Met)
meet_tried hand k e sound =
    let known : InOpen hand k × (k < hand.seen) = rw e at sound.phase in
    rw e (known.0.1)

pub post_tried : (last : Option ℕ) (hand : Standing) (k v : ℕ) → hand.phase ≡ phases.Post k → HasTried last hand → HasTried last (told hand (answers.Least v))
post_tried last hand k v e h =
    let before : IfSome last (λ j. j < open_end hand) = rw e at h in
    rw e before

-- one hand is put in another's place
have-set : (core : Machine) (i next least : ℕ) (hand : Standing) (last now : ℕ → Option ℕ) → i < length core.hands → HasTried (now i) hand
    → ((j : ℕ) → j ≢ i → now j ≡ last j) → HaveTried last core → HaveTried now (record core { next = next; least = least; hands = set core.hands i hand })
have-set core i next least hand last now within this others h j inside = elim (cases_eq j i) [
  | inl same ↦ subst (λ k. HasTried (now k) (get_or (set core.hands i hand) k (fresh core.count core.block))) (sym same)
      (rw (get_or-set_same core.hands i hand (fresh core.count core.block) within) this)
  | inr other ↦ rw (get_or-set_other core.hands i j hand (fresh core.count core.block) other, others j other) (h j (rw (length-set core.hands i hand) at inside))
]

have_tried-turned : (core : Machine) (i : ℕ) (last : ℕ → Option ℕ) → IsMachine core → i < length core.hands → HaveTried last core → HaveTried last (turned core i)
have_tried-turned core i last sound within h = by_phase (hand_at core i).phase refl
  where
    this : IsHandOf core (hand_at core i)
    this = hand_of core i sound within

    by_phase : (p : Phase) → (hand_at core i).phase ≡ p → HaveTried last (turned_in core i (hand_at core i) p)
    by_phase phases.Claim e = have-set core i (core.next + 1) core.least (told (hand_at core i) (answers.Block core.next)) last last within
        (claim_tried (last i) (hand_at core i) core.next e this.claimed (h i within)) (λ j other. refl) h
    by_phase (phases.Look k) e = have-set core i core.next core.least (told (hand_at core i) (answers.Least core.least)) last last within
        (look_tried (last i) (hand_at core i) k core.least e this.sound (h i within)) (λ j other. refl) h
    by_phase (phases.Try k) e = h
    by_phase (phases.Post k) e = have-set core i core.next (min core.least k) (told (hand_at core i) (answers.Least core.least)) last last within
        (post_tried (last i) (hand_at core i) k core.least e (h i within)) (λ j other. refl) h
    by_phase phases.Over e = h

pub have_tried-tried : (core : Machine) (i k : ℕ) (met : Bool) (last now : ℕ → Option ℕ) → IsMachine core → i < length core.hands → (hand_at core i).phase ≡ phases.Try k
    → TriesNow i k last now → HaveTried last core → HaveTried now (tried core i met)
have_tried-tried core i k met last now sound within e tries h =
    have-set core i core.next core.least (told (hand_at core i) (verdict met)) last now within (rw tries.this (by_verdict met)) tries.others h
  where
    by_verdict : (b : Bool) → HasTried (Some k) (told (hand_at core i) (verdict b))
    by_verdict true = meet_tried (hand_at core i) k e (hand_of core i sound within).sound
    by_verdict false = miss_tried (hand_at core i) k e (hand_of core i sound within).sound

-- what is left, with one hand in another's place
left-set : (left : Standing → ℕ) (core : Machine) (i : ℕ) (hand : Standing) → i < length core.hands
    → sum_by left (set core.hands i hand) + left (hand_at core i) ≡ sum_by left core.hands + left hand
left-set left core i hand within = sum_by-set left core.hands i hand (fresh core.count core.block) within

pub left_to-tried : (left : Standing → ℕ) (core : Machine) (i : ℕ) (met : Bool) → i < length core.hands
    → left_to left (tried core i met) + left (hand_at core i) ≡ left_to left core + left (told (hand_at core i) (verdict met))
left_to-tried left core i met within = left-set left core i (told (hand_at core i) (verdict met)) within

hand_for : (core : Machine) (i : ℕ) → IsMachine core → i < length core.hands → IsHandFor core.count core.block (hand_at core i)
hand_for core i sound within =
    let this = hand_of core i sound within in
    record { count_is = this.count; block_is = this.block; sound = this.sound }

-- one block more
one_more : (worth : ℕ → ℕ) (n : ℕ) → sum_below worth (n + 1) ≡ sum_below worth n + worth n
one_more worth n = rw add-one refl

most-turned : (core : Machine) (i : ℕ) (left : Standing → ℕ) (worth : ℕ → ℕ) → IsMachine core → i < length core.hands → AddsNoMore core.count core.block left worth
    → GrowsByAtMost left worth core (turned core i)
most-turned core i left worth sound within adds = by_phase (hand_at core i).phase refl
  where
    by_phase : (p : Phase) → (hand_at core i).phase ≡ p → GrowsByAtMost left worth core (turned_in core i (hand_at core i) p)
    by_phase phases.Claim e = omega (
      arith,
      left-set left core i (told (hand_at core i) (answers.Block core.next)) within,
      adds.claims (hand_at core i) core.next (hand_for core i sound within) e,
      one_more worth core.next,
    )
    by_phase (phases.Look k) e = omega (
      arith,
      left-set left core i (told (hand_at core i) (answers.Least core.least)) within,
      adds.looks (hand_at core i) k core.least (hand_for core i sound within) e,
    )
    by_phase (phases.Try k) e = omega arith
    by_phase (phases.Post k) e = omega (
      arith,
      left-set left core i (told (hand_at core i) (answers.Least core.least)) within,
      adds.posts (hand_at core i) k core.least (hand_for core i sound within) e,
    )
    by_phase phases.Over e = omega arith

-- nothing below the first number that meets was posted
first_below : (core : Machine) (meets : List ℕ) → Fits meets core → first_of core.count meets ≤ core.least
first_below core meets fits = elim fits.least [
  | inl none ↦ elim (first_is_in core.count meets) [
    | inl whole ↦ omega (arith, none, whole)
    | inr found ↦ omega (arith, none, (first_is_least core.count meets fits.list (first_of core.count meets) found).1)
  ]
  | inr posted ↦ (first_is_least core.count meets fits.list core.least posted).0
]

least-turned : (core : Machine) (i : ℕ) (meets : List ℕ) (left : Standing → ℕ) (worth : ℕ → ℕ) → IsMachine core → i < length core.hands → Fits meets core
    → LosesNone (first_of core.count meets) core.count core.block left worth → GrowsByAtLeast left worth core (turned core i)
least-turned core i meets left worth sound within fits keeps = by_phase (hand_at core i).phase refl
  where
    first : first_of core.count meets ≤ core.least
    first = first_below core meets fits

    seen : first_of core.count meets ≤ (hand_at core i).seen
    seen = omega (arith, first, (hand_of core i sound within).least)

    by_phase : (p : Phase) → (hand_at core i).phase ≡ p → GrowsByAtLeast left worth core (turned_in core i (hand_at core i) p)
    by_phase phases.Claim e = omega (
      arith,
      left-set left core i (told (hand_at core i) (answers.Block core.next)) within,
      keeps.claims (hand_at core i) core.next (hand_for core i sound within) seen e,
      one_more worth core.next,
    )
    by_phase (phases.Look k) e = omega (
      arith,
      left-set left core i (told (hand_at core i) (answers.Least core.least)) within,
      keeps.looks (hand_at core i) k core.least (hand_for core i sound within) seen first e,
    )
    by_phase (phases.Try k) e = omega arith
    by_phase (phases.Post k) e = omega (
      arith,
      left-set left core i (told (hand_at core i) (answers.Least core.least)) within,
      keeps.posts (hand_at core i) k core.least (hand_for core i sound within) seen first e,
    )
    by_phase phases.Over e = omega arith

block-turned : (core : Machine) (i : ℕ) → (turned core i).block ≡ core.block
block-turned core i = by_phase (hand_at core i).phase
  where
    by_phase : (p : Phase) → (turned_in core i (hand_at core i) p).block ≡ core.block
    by_phase phases.Claim = refl
    by_phase (phases.Look k) = refl
    by_phase (phases.Try k) = refl
    by_phase (phases.Post k) = refl
    by_phase phases.Over = refl

pub hands-turned : (core : Machine) (i : ℕ) → length (turned core i).hands ≡ length core.hands
hands-turned core i = by_phase (hand_at core i).phase
  where
    by_phase : (p : Phase) → length (turned_in core i (hand_at core i) p).hands ≡ length core.hands
    by_phase phases.Claim = length-set core.hands i _
    by_phase (phases.Look k) = length-set core.hands i _
    by_phase (phases.Try k) = refl
    by_phase (phases.Post k) = length-set core.hands i _
    by_phase phases.Over = refl

-- one turn, none, and one after the other
pub keeps_on-turned : (core : Machine) (i : ℕ) → IsMachine core → i < length core.hands → turn_in (hand_at core i).phase ≡ turns.Did → KeepsOn core (turned core i)
keeps_on-turned core i sound within did =
    let keeps = keeps-turned core i sound within in
    record {
      fits = keeps.fits;
      covers = keeps.covers;
      count = count-turned core i;
      block = block-turned core i;
      hands = hands-turned core i;
      work = omega (arith, work-turned core i sound within did);
      tried = λ last h. have_tried-turned core i last sound within h;
      most = λ left worth adds. most-turned core i left worth sound within adds;
      least = λ meets left worth fits loses. least-turned core i meets left worth sound within fits loses;
    }

pub keeps_on-same : (old new : Machine) → new ≡ old → KeepsOn old new
keeps_on-same old new same = subst (λ (m : Machine). KeepsOn old m) (sym same) (record {
  fits = λ meets h. h;
  covers = λ left h. h;
  count = refl;
  block = refl;
  hands = refl;
  work = omega arith;
  tried = λ last h. h;
  most = λ left worth adds. omega arith;
  least = λ meets left worth fits loses. omega arith;
})

pub keeps_on-both : (a b c : Machine) → KeepsOn a b → KeepsOn b c → KeepsOn a c
keeps_on-both a b c first second = record {
  fits = λ meets h. second.fits meets (first.fits meets h);
  covers = λ left h. second.covers left (first.covers left h);
  count = second.count ∙ first.count;
  block = second.block ∙ first.block;
  hands = second.hands ∙ first.hands;
  work = omega (arith, first.work, second.work);
  tried = λ last h. second.tried last (first.tried last h);
  most = λ left worth adds.
      let adds' : AddsNoMore b.count b.block left worth = subst (λ n. AddsNoMore n b.block left worth) (sym first.count) (subst (λ n. AddsNoMore a.count n left worth) (sym first.block) adds) in
      omega (arith, first.most left worth adds, second.most left worth adds');
  least = λ meets left worth fits loses.
      let loses' : LosesNone (first_of b.count meets) b.count b.block left worth =
      subst (λ n. LosesNone (first_of n meets) n b.block left worth) (sym first.count) (subst (λ n. LosesNone (first_of a.count meets) a.count n left worth) (sym first.block) loses) in
      omega (arith, first.least meets left worth fits loses, second.least meets left worth (first.fits meets fits) loses');
}
