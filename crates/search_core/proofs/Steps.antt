-- What one turn keeps, and that the work falls with it.
use Rattle.std.proofs.Common.{zero, suc, add-one, ◌≡◌, ◌≢◌, ℕ, ◌+◌, ◌-◌, ◌*◌, ◌<◌, ◌≤◌, ◌⊎◌, Bool, true, false, cond, min, Option, Some, None, List, [], ◌∷◌, length, get_or, set, refl, sym, ◌∙◌, ap, subst, inl, inr, arith, get_or-set_other, get_or-set_same, length-set}
use Rattle.std.specs.Prelude.{All, Any, IfSome, IsSomeAnd, nat_lt, nat_eq, sum_by, count_by}
use Rattle.std.proofs.Math.Nat.{mul-le-mul_right}
use Rattle.std.proofs.lemmas.Bool.{cases_eq, cases_lt, true≢false, false≢true, or_left, eqb-true, lt-ltb, le-ltb, eq-eqb, ne_eqb}
use Rattle.std.proofs.lemmas.List.Sums.{sum_by-set}
use Rattle.std.proofs.lemmas.List.Elements.{All-set, All-weaker}
use Rattle.std.proofs.lemmas.Grind.{div_ceil_times}
use Rattle.std.proofs.lemmas.List.{get_or_default}
use Rattle.std.proofs.lemmas.List.Folds.{Any-from_list_any}
use Rattle.search_core.specs.declared.hand.Phase.{Phase}
use Rattle.search_core.specs.declared.hand.Phase.TheVariants as phases
use Rattle.search_core.specs.declared.hand.Answer.TheVariants as answers
use Rattle.search_core.specs.declared.machine.Turn.TheVariants as turns
use Rattle.search_core.specs.Hand.{Standing, fresh, told, start_at, end_at, open_end, IsHand, InOpen, FitsPhase, AheadIn, IsAhead, PostsIn, PostsMet, IsTry, number_in}
use Rattle.search_core.specs.Machine.{Machine, hand_at, turned, turned_in, turn_in, verdict, tried, Covers, IsMachine, IsHandOf, work, work_of, ended_in, has_ended, AllOver, IsMeets, Fits, is_in}
use Rattle.search_core.specs.Numbers.{block_count, first_of}

-- one hand is put in another's place: the others keep what they have ahead of them
pub covers-set : (core : Machine) (i next least : ℕ) (hand : Standing) (left : ℕ → Bool) → i < length core.hands → least ≤ core.least
    → ((n : ℕ) → left n ≡ true → n < least → core.next * core.block ≤ n → (next * core.block ≤ n) ⊎ IsAhead hand n)
    → ((n : ℕ) → left n ≡ true → n < least → IsAhead (hand_at core i) n → IsAhead hand n)
    → Covers left core → Covers left (record core { next = next; least = least; hands = set core.hands i hand })
covers-set core i next least hand left within lower claims keeps covers n marked below =
    elim (covers n marked (omega arith)) [
      | inl unclaimed ↦ elim (claims n marked below unclaimed) [ inl still ↦ inl still | inr ahead ↦ inr (i, now_within i within, here ahead) ]
      | inr (j, j_within, ahead) ↦ elim (cases_eq j i) [
        | inl same ↦ inr (i, now_within i within, here (keeps n marked below (subst (λ k. IsAhead (hand_at core k) n) same ahead)))
        | inr other ↦ inr (j, now_within j j_within, rw (get_or-set_other core.hands i j hand (fresh core.count core.block) other) ahead)
      ]
    ]
  where
    now_within : (j : ℕ) → j < length core.hands → j < length (set core.hands i hand)
    now_within j h = rw (length-set core.hands i hand) h

    here : IsAhead hand n → IsAhead (get_or (set core.hands i hand) i (fresh core.count core.block)) n
    here ahead = rw (get_or-set_same core.hands i hand (fresh core.count core.block) within) ahead

-- the rows of the table, for a number below what the hand has seen
claim_ahead : (hand : Standing) (n block m : ℕ) → hand.phase ≡ phases.Claim → hand.block ≡ block → m < hand.seen → n * block ≤ m → m < (n + 1) * block → m < hand.count
    → IsAhead (told hand (answers.Block n)) m
claim_ahead hand n block m e same seen low high inside =
    let low' : n * hand.block ≤ m = rw same low in
    let high' : m < (n + 1) * hand.block = rw same high in
    let t = lt-ltb (n * hand.block) hand.seen (omega arith) in
    rw (e, t) (low', omega arith)

look_ahead : (hand : Standing) (k v m : ℕ) → hand.phase ≡ phases.Look k → m < hand.seen → m < v → IsAhead hand m → IsAhead (told hand (answers.Least v)) m
look_ahead hand k v m e seen below ahead =
    let here = rw e at ahead in
    let t = lt-ltb k (min hand.seen v) (omega (arith, here.0)) in
    rw (e, t) here

miss_ahead : (hand : Standing) (k m : ℕ) → hand.phase ≡ phases.Try k → m ≢ k → IsAhead hand m → IsAhead (told hand answers.Missed) m
miss_ahead hand k m e other ahead =
    let here = rw e at ahead in
    let t = ne_eqb (k + 1) (open_end hand) (omega (arith, here.0, here.1)) in
    rw (e, t) (omega (arith, here.0), here.1)

meet_ahead : (hand : Standing) (k m : ℕ) → hand.phase ≡ phases.Try k → IsAhead hand m → IsAhead (told hand answers.Met) m
meet_ahead hand k m e ahead = let here = rw e at ahead in rw e here

post_ahead : (hand : Standing) (k m : ℕ) → hand.phase ≡ phases.Post k → m < k → IsAhead hand m → ⊥
post_ahead hand k m e below ahead = let here = rw e at ahead in omega (arith, here.0)

claim_not_ahead : (hand : Standing) (m : ℕ) → hand.phase ≡ phases.Claim → IsAhead hand m → ⊥
claim_not_ahead hand m e ahead = rw e at ahead

pub hand_of : (core : Machine) (i : ℕ) → IsMachine core → i < length core.hands → IsHandOf core (hand_at core i)
hand_of core i sound within = sound.hands i (fresh core.count core.block) within

-- a turn keeps what is covered
pub covers-turned : (core : Machine) (i : ℕ) (left : ℕ → Bool) → IsMachine core → i < length core.hands → Covers left core → Covers left (turned core i)
covers-turned core i left sound within covers = by_phase (hand_at core i).phase refl
  where
    this : IsHandOf core (hand_at core i)
    this = hand_of core i sound within

    by_phase : (p : Phase) → (hand_at core i).phase ≡ p → Covers left (turned_in core i (hand_at core i) p)
    by_phase phases.Claim e =
        covers-set core i (core.next + 1) core.least (told (hand_at core i) (answers.Block core.next)) left within (omega arith)
        (λ n marked below unclaimed. elim (cases_lt n ((core.next + 1) * core.block)) [
          | inl inside ↦ inr (claim_ahead (hand_at core i) core.next core.block n e this.block (omega (arith, this.least)) unclaimed inside (omega (arith, this.count, sound.least)))
          | inr later ↦ inl later
        ])
        (λ n marked below ahead. absurd (claim_not_ahead (hand_at core i) n e ahead))
        covers
    by_phase (phases.Look k) e =
        covers-set core i core.next core.least (told (hand_at core i) (answers.Least core.least)) left within (omega arith)
        (λ n marked below unclaimed. inl unclaimed)
        (λ n marked below ahead. look_ahead (hand_at core i) k core.least n e (omega (arith, this.least)) below ahead)
        covers
    by_phase (phases.Try k) e = covers
    by_phase (phases.Post k) e =
        covers-set core i core.next (min core.least k) (told (hand_at core i) (answers.Least core.least)) left within (omega arith)
        (λ n marked below unclaimed. inl unclaimed)
        (λ n marked below ahead. absurd (post_ahead (hand_at core i) k n e (omega arith) ahead))
        covers
    by_phase phases.Over e = covers

-- a try that was answered keeps what is covered, if the test marks no number that misses
pub covers-tried : (core : Machine) (i k : ℕ) (met : Bool) (left : ℕ → Bool) → i < length core.hands → (hand_at core i).phase ≡ phases.Try k
    → (met ≡ false → left k ≡ false) → Covers left core → Covers left (tried core i met)
covers-tried core i k met left within e misses covers = by_verdict met misses
  where
    by_verdict : (b : Bool) → (b ≡ false → left k ≡ false) → Covers left (tried core i b)
    by_verdict true misses' =
        covers-set core i core.next core.least (told (hand_at core i) answers.Met) left within (omega arith)
        (λ n marked below unclaimed. inl unclaimed)
        (λ n marked below ahead. meet_ahead (hand_at core i) k n e ahead)
        covers
    by_verdict false misses' =
        covers-set core i core.next core.least (told (hand_at core i) answers.Missed) left within (omega arith)
        (λ n marked below unclaimed. inl unclaimed)
        (λ n marked below ahead. miss_ahead (hand_at core i) k n e (λ same. true≢false (sym marked ∙ ap left same ∙ misses' refl)) ahead)
        covers

-- each row leaves a hand as hands are
claim_sound : (hand : Standing) (n : ℕ) → hand.phase ≡ phases.Claim → IsHand hand → IsHand (told hand (answers.Block n))
claim_sound hand n e h = elim (cases_lt (n * hand.block) hand.seen) [
  | inl below ↦ let t = lt-ltb (n * hand.block) hand.seen below in
      rw (e, t) (record { count = h.count; positive = h.positive; block = h.block; seen = h.seen; phase = (omega arith, omega (arith, h.positive, h.seen)) })
  | inr above ↦ let t = le-ltb (n * hand.block) hand.seen above in
      rw (e, t) (record { count = h.count; positive = h.positive; block = h.block; seen = h.seen; phase = above })
]

in_open_starts : (hand : Standing) (k : ℕ) → InOpen hand k → IfSome hand.last (λ n. n * hand.block < hand.count)
in_open_starts hand k inside = by_last hand.last inside.0 inside.1
  where
    by_last : (last : Option ℕ) → start_at hand.block last ≤ k → k < end_at hand.count hand.block last → IfSome last (λ n. n * hand.block < hand.count)
    by_last None low high = tt
    by_last (Some n) low high = omega arith

look_sound : (hand : Standing) (k v : ℕ) → hand.phase ≡ phases.Look k → IsHand hand → IsHand (told hand (answers.Least v))
look_sound hand k v e h =
    let inside : InOpen hand k = rw e at h.phase in
    elim (cases_lt k (min hand.seen v)) [
      | inl below ↦ let t = lt-ltb k (min hand.seen v) below in
          rw (e, t) (record { count = h.count; positive = h.positive; block = h.block; seen = omega (arith, h.seen); phase = (inside, below) })
      | inr above ↦ let t = le-ltb k (min hand.seen v) above in
          rw (e, t) (record { count = h.count; positive = h.positive; block = h.block; seen = omega (arith, h.seen); phase = in_open_starts hand k inside })
    ]

miss_sound : (hand : Standing) (k : ℕ) → hand.phase ≡ phases.Try k → IsHand hand → IsHand (told hand answers.Missed)
miss_sound hand k e h =
    let known : InOpen hand k × (k < hand.seen) = rw e at h.phase in
    elim (cases_eq (k + 1) (open_end hand)) [
      | inl last ↦ let t = eq-eqb (k + 1) (open_end hand) last in
          rw (e, t) (record { count = h.count; positive = h.positive; block = h.block; seen = h.seen; phase = in_open_starts hand k known.0 })
      | inr more ↦ let t = ne_eqb (k + 1) (open_end hand) more in
          rw (e, t) (record { count = h.count; positive = h.positive; block = h.block; seen = h.seen; phase = (omega (arith, known.0.0), omega (arith, known.0.1)) })
    ]

meet_sound : (hand : Standing) (k : ℕ) → hand.phase ≡ phases.Try k → IsHand hand → IsHand (told hand answers.Met)
meet_sound hand k e h =
    let known : InOpen hand k × (k < hand.seen) = rw e at h.phase in
    rw e (record { count = h.count; positive = h.positive; block = h.block; seen = h.seen; phase = known })

post_sound : (hand : Standing) (k v : ℕ) → hand.phase ≡ phases.Post k → IsHand hand → IsHand (told hand (answers.Least v))
post_sound hand k v e h =
    let known : InOpen hand k × (k < hand.seen) = rw e at h.phase in
    rw e (record { count = h.count; positive = h.positive; block = h.block; seen = omega (arith, h.seen); phase = in_open_starts hand k known.0 })

-- one hand is put in another's place: the machine is one still
claimed_below : (last : Option ℕ) (before now : ℕ) → before ≤ now → IfSome last (λ n. n < before) → IfSome last (λ n. n < now)
claimed_below None before now more h = tt
claimed_below (Some n) before now more h = omega arith

machine-set : (core : Machine) (i next least : ℕ) (hand : Standing) → i < length core.hands → core.next ≤ next → least ≤ core.least → IfSome hand.last (λ n. n < next)
    → hand.count ≡ core.count → hand.block ≡ core.block → least ≤ hand.seen → IsHand hand
    → next ≤ block_count core.count core.block + count_by has_ended (set core.hands i hand)
    → IsMachine core → IsMachine (record core { next = next; least = least; hands = set core.hands i hand })
machine-set core i next least hand within later lower own count block seen whole claimed sound = record {
  count = sound.count;
  positive = sound.positive;
  block = sound.block;
  some_hand = rw (length-set core.hands i hand) sound.some_hand;
  few_hands = rw (length-set core.hands i hand) sound.few_hands;
  least = omega (arith, sound.least);
  next = claimed;
  hands = All-set (IsHandOf now) core.hands i hand (record { count = count; block = block; least = seen; claimed = own; sound = whole })
      (All-weaker (IsHandOf core) (IsHandOf now)
      (λ other h. record { count = h.count; block = h.block; least = omega (arith, h.least); claimed = claimed_below other.last core.next next later h.claimed; sound = h.sound })
      core.hands sound.hands);
}
  where
    now : Machine
    now = record core { next = next; least = least; hands = set core.hands i hand }

abbrev one_if : Bool → ℕ
one_if b = cond b 1 0

-- as many hands have ended as before, and one more where this one ends
ended-set : (core : Machine) (i : ℕ) (hand : Standing) → i < length core.hands → has_ended (hand_at core i) ≡ false
    → count_by has_ended (set core.hands i hand) ≡ count_by has_ended core.hands + one_if (has_ended hand)
ended-set core i hand within before =
    let counted = sum_by-set (λ h. one_if (has_ended h)) core.hands i hand (fresh core.count core.block) within in
    let none = ap one_if before in
    omega (arith, counted, none)

-- a claim past the last block ends the hand
claim_next : (core : Machine) (i : ℕ) → IsMachine core → i < length core.hands → (hand_at core i).phase ≡ phases.Claim
    → core.next + 1 ≤ block_count core.count core.block + count_by has_ended (set core.hands i (told (hand_at core i) (answers.Block core.next)))
claim_next core i sound within e =
    let hand = hand_at core i in
    let this : IsHandOf core (hand_at core i) = hand_of core i sound within in
    let before : has_ended (hand_at core i) ≡ false = ap ended_in e in
    let counted = ended-set core i (told (hand_at core i) (answers.Block core.next)) within before in
    elim (cases_lt core.next (block_count core.count core.block)) [
      | inl inside ↦ omega (arith, counted)
      | inr past ↦
          let filled = (div_ceil_times core.count core.block sound.positive).0 in
          let far : block_count core.count core.block * core.block ≤ core.next * core.block = mul-le-mul_right core.block past in
          let t : nat_lt (core.next * (hand_at core i).block) (hand_at core i).seen ≡ false =
          rw this.block (le-ltb (core.next * core.block) (hand_at core i).seen (omega (arith, this.sound.seen, this.count))) in
          let ends : has_ended (told (hand_at core i) (answers.Block core.next)) ≡ true = rw (e, t) in
          let one = ap one_if ends in
          omega (arith, counted, one, sound.next)
    ]

pub machine-turned : (core : Machine) (i : ℕ) → IsMachine core → i < length core.hands → IsMachine (turned core i)
machine-turned core i sound within = by_phase (hand_at core i).phase refl
  where
    this : IsHandOf core (hand_at core i)
    this = hand_of core i sound within

    stays : (hand : Standing) → has_ended (hand_at core i) ≡ false → core.next ≤ block_count core.count core.block + count_by has_ended (set core.hands i hand)
    stays hand before = omega (arith, ended-set core i hand within before, sound.next)

    by_phase : (p : Phase) → (hand_at core i).phase ≡ p → IsMachine (turned_in core i (hand_at core i) p)
    by_phase phases.Claim e = machine-set core i (core.next + 1) core.least (told (hand_at core i) (answers.Block core.next)) within (omega arith) (omega arith) (rw e (omega arith))
        (rw e this.count) (rw e this.block) (rw e this.least)
        (claim_sound (hand_at core i) core.next e this.sound) (claim_next core i sound within e) sound
    by_phase (phases.Look k) e = machine-set core i core.next core.least (told (hand_at core i) (answers.Least core.least)) within (omega arith) (omega arith) (rw e this.claimed)
        (rw e this.count) (rw e this.block) (rw e (omega (arith, this.least)))
        (look_sound (hand_at core i) k core.least e this.sound) (stays _ (ap ended_in e)) sound
    by_phase (phases.Try k) e = sound
    by_phase (phases.Post k) e = machine-set core i core.next (min core.least k) (told (hand_at core i) (answers.Least core.least)) within (omega arith) (omega arith) (rw e this.claimed)
        (rw e this.count) (rw e this.block) (rw e (omega (arith, this.least)))
        (post_sound (hand_at core i) k core.least e this.sound) (stays _ (ap ended_in e)) sound
    by_phase phases.Over e = sound

pub machine-tried : (core : Machine) (i k : ℕ) (met : Bool) → IsMachine core → i < length core.hands → (hand_at core i).phase ≡ phases.Try k → IsMachine (tried core i met)
machine-tried core i k met sound within e = by_verdict met
  where
    this : IsHandOf core (hand_at core i)
    this = hand_of core i sound within

    stays : (hand : Standing) → core.next ≤ block_count core.count core.block + count_by has_ended (set core.hands i hand)
    stays hand = omega (arith, ended-set core i hand within (ap ended_in e), sound.next)

    by_verdict : (b : Bool) → IsMachine (tried core i b)
    by_verdict true = machine-set core i core.next core.least (told (hand_at core i) answers.Met) within (omega arith) (omega arith) (rw e this.claimed)
        (rw e this.count) (rw e this.block) (rw e this.least)
        (meet_sound (hand_at core i) k e this.sound) (stays _) sound
    by_verdict false = machine-set core i core.next core.least (told (hand_at core i) answers.Missed) within (omega arith) (omega arith) (rw e this.claimed)
        (rw e this.count) (rw e this.block) (rw e this.least)
        (miss_sound (hand_at core i) k e this.sound) (stays _) sound

-- each row leaves less to do
claim_work : (hand : Standing) (n block count : ℕ) → hand.phase ≡ phases.Claim → hand.block ≡ block → hand.count ≡ count → IsHand hand
    → work_of (told hand (answers.Block n)) + 4 * (count - (n + 1) * block) < 1 + 4 * (count - n * block)
claim_work hand n block count e same whole h = rw (← same, ← whole) (elim (cases_lt (n * hand.block) hand.seen) [
  | inl below ↦ let t = lt-ltb (n * hand.block) hand.seen below in
      rw (e, t) (omega (arith, h.positive, h.seen))
  | inr above ↦ let t = le-ltb (n * hand.block) hand.seen above in rw (e, t) (omega arith)
])

look_work : (hand : Standing) (k v : ℕ) → hand.phase ≡ phases.Look k → IsHand hand → work_of (told hand (answers.Least v)) < work_of hand
look_work hand k v e h =
    let inside : InOpen hand k = rw e at h.phase in
    elim (cases_lt k (min hand.seen v)) [
      | inl below ↦ let t = lt-ltb k (min hand.seen v) below in rw (e, t) (omega (arith, inside.1))
      | inr above ↦ let t = le-ltb k (min hand.seen v) above in rw (e, t) (omega (arith, inside.1))
    ]

miss_work : (hand : Standing) (k : ℕ) → hand.phase ≡ phases.Try k → IsHand hand → work_of (told hand answers.Missed) < work_of hand
miss_work hand k e h =
    let known : InOpen hand k × (k < hand.seen) = rw e at h.phase in
    elim (cases_eq (k + 1) (open_end hand)) [
      | inl last ↦ let t = eq-eqb (k + 1) (open_end hand) last in rw (e, t) (omega (arith, known.0.1))
      | inr more ↦ let t = ne_eqb (k + 1) (open_end hand) more in rw (e, t) (omega (arith, known.0.1))
    ]

meet_work : (hand : Standing) (k : ℕ) → hand.phase ≡ phases.Try k → IsHand hand → work_of (told hand answers.Met) < work_of hand
meet_work hand k e h =
    let known : InOpen hand k × (k < hand.seen) = rw e at h.phase in
    rw e (omega (arith, known.0.1))

post_work : (hand : Standing) (k v : ℕ) → hand.phase ≡ phases.Post k → work_of (told hand (answers.Least v)) < work_of hand
post_work hand k v e = rw e (omega arith)

-- the work of a hand in another's place
work-set : (core : Machine) (i : ℕ) (hand : Standing) → i < length core.hands
    → sum_by work_of (set core.hands i hand) + work_of (hand_at core i) ≡ sum_by work_of core.hands + work_of hand
work-set core i hand within = sum_by-set work_of core.hands i hand (fresh core.count core.block) within

-- a claim, a look or a post leaves less to do
pub work-turned : (core : Machine) (i : ℕ) → IsMachine core → i < length core.hands → turn_in (hand_at core i).phase ≡ turns.Did → work (turned core i) < work core
work-turned core i sound within = by_phase (hand_at core i).phase refl
  where
    this : IsHandOf core (hand_at core i)
    this = hand_of core i sound within

    by_phase : (p : Phase) → (hand_at core i).phase ≡ p → turn_in p ≡ turns.Did → work (turned_in core i (hand_at core i) p) < work core
    by_phase phases.Claim e did =
        let placed = work-set core i (told (hand_at core i) (answers.Block core.next)) within in
        let less = claim_work (hand_at core i) core.next core.block core.count e this.block this.count this.sound in
        let one : work_of (hand_at core i) ≡ 1 = rw e in
        omega (arith, placed, less, one)
    by_phase (phases.Look k) e did =
        let placed = work-set core i (told (hand_at core i) (answers.Least core.least)) within in
        omega (arith, placed, look_work (hand_at core i) k core.least e this.sound)
    by_phase (phases.Try k) e did = absurd (cc)
    by_phase (phases.Post k) e did =
        let placed = work-set core i (told (hand_at core i) (answers.Least core.least)) within in
        omega (arith, placed, post_work (hand_at core i) k core.least e)
    by_phase phases.Over e did = absurd (cc)

-- and so does a try that was answered
pub work-tried : (core : Machine) (i k : ℕ) (met : Bool) → IsMachine core → i < length core.hands → (hand_at core i).phase ≡ phases.Try k → work (tried core i met) < work core
work-tried core i k met sound within e = by_verdict met
  where
    this : IsHandOf core (hand_at core i)
    this = hand_of core i sound within

    by_verdict : (b : Bool) → work (tried core i b) < work core
    by_verdict true = omega (arith, work-set core i (told (hand_at core i) answers.Met) within, meet_work (hand_at core i) k e this.sound)
    by_verdict false = omega (arith, work-set core i (told (hand_at core i) answers.Missed) within, miss_work (hand_at core i) k e this.sound)

claim_posts : (hand : Standing) (n : ℕ) (meets : ℕ → Bool) → hand.phase ≡ phases.Claim → PostsMet meets (told hand (answers.Block n))
claim_posts hand n meets e = rw e (by_test (nat_lt (n * hand.block) hand.seen))
  where
    by_test : (b : Bool) → PostsIn meets (cond b (phases.Look (n * hand.block)) phases.Over)
    by_test true = tt
    by_test false = tt

look_posts : (hand : Standing) (k v : ℕ) (meets : ℕ → Bool) → hand.phase ≡ phases.Look k → PostsMet meets (told hand (answers.Least v))
look_posts hand k v meets e = rw e (by_test (nat_lt k (min hand.seen v)))
  where
    by_test : (b : Bool) → PostsIn meets (cond b (phases.Try k) phases.Claim)
    by_test true = tt
    by_test false = tt

miss_posts : (hand : Standing) (k : ℕ) (meets : ℕ → Bool) → hand.phase ≡ phases.Try k → PostsMet meets (told hand answers.Missed)
miss_posts hand k meets e = rw e (by_test (nat_eq (k + 1) (open_end hand)))
  where
    by_test : (b : Bool) → PostsIn meets (cond b phases.Claim (phases.Look (k + 1)))
    by_test true = tt
    by_test false = tt

-- what is posted meets: only a try that is told to meet leads to a post
pub posts-turned : (core : Machine) (i : ℕ) (meets : ℕ → Bool) → IsMachine core → i < length core.hands → All (PostsMet meets) core.hands → All (PostsMet meets) (turned core i).hands
posts-turned core i meets sound within posts = by_phase (hand_at core i).phase refl
  where
    by_phase : (p : Phase) → (hand_at core i).phase ≡ p → All (PostsMet meets) (turned_in core i (hand_at core i) p).hands
    by_phase phases.Claim e = All-set (PostsMet meets) core.hands i (told (hand_at core i) (answers.Block core.next)) (claim_posts (hand_at core i) core.next meets e) posts
    by_phase (phases.Look k) e = All-set (PostsMet meets) core.hands i (told (hand_at core i) (answers.Least core.least)) (look_posts (hand_at core i) k core.least meets e) posts
    by_phase (phases.Try k) e = posts
    by_phase (phases.Post k) e = All-set (PostsMet meets) core.hands i (told (hand_at core i) (answers.Least core.least)) (rw e tt) posts
    by_phase phases.Over e = posts

pub posts-tried : (core : Machine) (i k : ℕ) (met : Bool) (meets : ℕ → Bool) → i < length core.hands → (hand_at core i).phase ≡ phases.Try k
    → (met ≡ true → meets k ≡ true) → All (PostsMet meets) core.hands → All (PostsMet meets) (tried core i met).hands
posts-tried core i k met meets within e says posts = by_verdict met says
  where
    by_verdict : (b : Bool) → (b ≡ true → meets k ≡ true) → All (PostsMet meets) (tried core i b).hands
    by_verdict true says' = All-set (PostsMet meets) core.hands i (told (hand_at core i) answers.Met) (rw e (says' refl)) posts
    by_verdict false says' = All-set (PostsMet meets) core.hands i (told (hand_at core i) answers.Missed) (miss_posts (hand_at core i) k meets e) posts

-- the least number is the count, or meets
pub least-turned : (core : Machine) (i : ℕ) (meets : ℕ → Bool) → i < length core.hands → All (PostsMet meets) core.hands
    → (core.least ≡ core.count) ⊎ (meets core.least ≡ true) → ((turned core i).least ≡ (turned core i).count) ⊎ (meets (turned core i).least ≡ true)
least-turned core i meets within posts known = by_phase (hand_at core i).phase refl
  where
    by_phase : (p : Phase) → (hand_at core i).phase ≡ p
        → ((turned_in core i (hand_at core i) p).least ≡ (turned_in core i (hand_at core i) p).count) ⊎ (meets (turned_in core i (hand_at core i) p).least ≡ true)
    by_phase phases.Claim e = known
    by_phase (phases.Look k) e = known
    by_phase (phases.Try k) e = known
    by_phase (phases.Post k) e = elim (cases_lt k core.least) [
      | inl lower ↦ let same : min core.least k ≡ k = omega arith in
          let posted : meets k ≡ true = rw e at (posts i (fresh core.count core.block) within) in
          inr (ap meets same ∙ posted)
      | inr not_lower ↦ let same : min core.least k ≡ core.least = omega arith in rw same known
    ]
    by_phase phases.Over e = known

-- a hand that has ended has nothing ahead, and its last claim starts at or above what it has seen
ended_ahead : (hand : Standing) (p : Phase) (n : ℕ) → ended_in p ≡ true → AheadIn hand p n → ⊥
ended_ahead hand phases.Claim n over ahead = ahead
ended_ahead hand (phases.Look k) n over ahead = false≢true over
ended_ahead hand (phases.Try k) n over ahead = false≢true over
ended_ahead hand (phases.Post k) n over ahead = false≢true over
ended_ahead hand phases.Over n over ahead = ahead

ended_last : (hand : Standing) (p : Phase) → ended_in p ≡ true → FitsPhase hand p → IsSomeAnd hand.last (λ n. hand.seen ≤ n * hand.block)
ended_last hand phases.Claim over fits = absurd (false≢true over)
ended_last hand (phases.Look k) over fits = absurd (false≢true over)
ended_last hand (phases.Try k) over fits = absurd (false≢true over)
ended_last hand (phases.Post k) over fits = absurd (false≢true over)
ended_last hand phases.Over over fits = fits

ended_seen : (hand : Standing) (next block : ℕ) → hand.block ≡ block → IfSome hand.last (λ n. n < next) → IsSomeAnd hand.last (λ n. hand.seen ≤ n * hand.block) → hand.seen ≤ next * block
ended_seen hand next block same claimed over = rw (← same) (by_last hand.last claimed over)
  where
    by_last : (last : Option ℕ) → IfSome last (λ n. n < next) → IsSomeAnd last (λ n. hand.seen ≤ n * hand.block) → hand.seen ≤ next * hand.block
    by_last None claimed over = absurd over
    by_last (Some n) claimed over =
        let below : n * hand.block ≤ next * hand.block = mul-le-mul_right hand.block (omega arith) in
        omega (arith, below, over)

-- where all hands have ended, no number below the least is marked
pub none_covered : (core : Machine) (left : ℕ → Bool) → IsMachine core → AllOver core → Covers left core → (n : ℕ) → left n ≡ true → n < core.least → ⊥
none_covered core left sound over covers n marked below =
    let first : IsHandOf core (hand_at core 0) = hand_of core 0 sound sound.some_hand in
    let ended : has_ended (hand_at core 0) ≡ true = over 0 (fresh core.count core.block) sound.some_hand in
    let seen : (hand_at core 0).seen ≤ core.next * core.block =
    ended_seen (hand_at core 0) core.next core.block first.block first.claimed (ended_last (hand_at core 0) (hand_at core 0).phase ended first.sound.phase) in
    elim (covers n marked below) [
      | inl unclaimed ↦ omega (arith, first.least)
      | inr (i, within, ahead) ↦ ended_ahead (hand_at core i) (hand_at core i).phase n (over i (fresh core.count core.block) within) ahead
    ]

-- the first number of a rising list is at most each of its numbers
pub first_is_least : (count : ℕ) (meets : List ℕ) → IsMeets count meets → (n : ℕ) → is_in meets n ≡ true → (first_of count meets ≤ n) × (n < count)
first_is_least count [] list n h = absurd (false≢true h)
first_is_least count (x ∷ xs) list n h = at_place (Any-from_list_any (λ m. nat_eq m n) (x ∷ xs) h)
  where
    rising : (k : ℕ) → k < length (x ∷ xs) → x ≤ get_or (x ∷ xs) k 0
    rising zero within = omega arith
    rising (suc k) within =
        let below = rising k (omega arith) in
        let next : get_or (x ∷ xs) k 0 < get_or (x ∷ xs) (k + 1) 0 = list.0 k (omega arith) in
        let next' : get_or (x ∷ xs) k 0 < get_or (x ∷ xs) (suc k) 0 = rw add-one at next in
        omega (arith, below, next')

    at_place : Any (λ m. nat_eq m n ≡ true) (x ∷ xs) → (x ≤ n) × (n < count)
    at_place (k, m, within, is, equal) =
        let same = eqb-true m n equal in
        let here : get_or (x ∷ xs) k 0 ≡ n = get_or_default (x ∷ xs) k 0 m within ∙ is ∙ same in
        (omega (arith, rising k within, here), omega (arith, list.1 k 0 within, here))

pub first_is_in : (count : ℕ) (meets : List ℕ) → (first_of count meets ≡ count) ⊎ (is_in meets (first_of count meets) ≡ true)
first_is_in count [] = inl refl
first_is_in count (x ∷ xs) = inr (or_left (nat_eq x x) (is_in xs x) (eq-eqb x x refl))

-- where all hands have ended, the least is the first number that meets
pub over-first : (core : Machine) (meets : List ℕ) → IsMachine core → AllOver core → Fits meets core → core.least ≡ first_of core.count meets
over-first core meets sound over fits =
    let below : (n : ℕ) → is_in meets n ≡ true → core.least ≤ n = λ n h. elim (cases_lt n core.least) [ inl lower ↦ absurd (none_covered core (is_in meets) sound over fits.covers n h lower) | inr not_lower ↦ not_lower ] in
    elim fits.least [
      | inl none ↦ elim (first_is_in core.count meets) [
        | inl whole ↦ none ∙ sym whole
        | inr found ↦ let least = below (first_of core.count meets) found in let inside = first_is_least core.count meets fits.list (first_of core.count meets) found in omega (arith, least, inside.1)
      ]
      | inr found ↦
          let first = first_is_least core.count meets fits.list core.least found in
          elim (first_is_in core.count meets) [
            | inl whole ↦ omega (arith, first.0, first.1, whole)
            | inr other ↦ let least = below (first_of core.count meets) other in omega (arith, first.0, least)
          ]
    ]

-- what a step keeps
pub record Keeps (core now : Machine) : Type 0 where
  pub sound : IsMachine now
  pub fits : (meets : List ℕ) → Fits meets core → Fits meets now
  pub covers : (left : ℕ → Bool) → Covers left core → Covers left now

pub count-turned : (core : Machine) (i : ℕ) → (turned core i).count ≡ core.count
count-turned core i = by_phase (hand_at core i).phase
  where
    by_phase : (p : Phase) → (turned_in core i (hand_at core i) p).count ≡ core.count
    by_phase phases.Claim = refl
    by_phase (phases.Look k) = refl
    by_phase (phases.Try k) = refl
    by_phase (phases.Post k) = refl
    by_phase phases.Over = refl

pub keeps-turned : (core : Machine) (i : ℕ) → IsMachine core → i < length core.hands → Keeps core (turned core i)
keeps-turned core i sound within = record {
  sound = machine-turned core i sound within;
  fits = λ meets fits. record {
    list = rw (count-turned core i) fits.list;
    least = least-turned core i (is_in meets) within fits.posts fits.least;
    posts = posts-turned core i (is_in meets) sound within fits.posts;
    covers = covers-turned core i (is_in meets) sound within fits.covers;
  };
  covers = λ left covers. covers-turned core i left sound within covers;
}

-- the same of the machine that the code makes in each arm
same_hand : (core : Machine) (i : ℕ) (hand : Standing) → i < length core.hands → hand ≡ get_or core.hands i hand → hand ≡ hand_at core i
same_hand core i hand within is = is ∙ get_or_default core.hands i hand (fresh core.count core.block) within

keeps-claim : (core : Machine) (i : ℕ) (read hand told_hand : Standing) → IsMachine core → i < length core.hands
    → read ≡ get_or core.hands i read → read.phase ≡ phases.Claim → hand ≡ get_or core.hands i hand → told_hand ≡ told hand (answers.Block core.next)
    → Keeps core (record core { next = core.next + 1; hands = set core.hands i told_hand })
keeps-claim core i read hand told_hand sound within reads e is tells =
    let phase : (hand_at core i).phase ≡ phases.Claim = ap (λ (h : Standing). h.phase) (sym (same_hand core i read within reads)) ∙ e in
    let now : turned core i ≡ record core { next = core.next + 1; hands = set core.hands i told_hand } =
    rw phase (ap (λ (h : Standing). record core { next = core.next + 1; hands = set core.hands i h }) (ap (λ (h : Standing). told h (answers.Block core.next)) (sym (same_hand core i hand within is)) ∙ sym tells)) in
    subst (λ (m : Machine). Keeps core m) now (keeps-turned core i sound within)

keeps-look : (core : Machine) (i k : ℕ) (read hand told_hand : Standing) → IsMachine core → i < length core.hands
    → read ≡ get_or core.hands i read → read.phase ≡ phases.Look k → hand ≡ get_or core.hands i hand → told_hand ≡ told hand (answers.Least core.least)
    → Keeps core (record core { hands = set core.hands i told_hand })
keeps-look core i k read hand told_hand sound within reads e is tells =
    let phase : (hand_at core i).phase ≡ phases.Look k = ap (λ (h : Standing). h.phase) (sym (same_hand core i read within reads)) ∙ e in
    let now : turned core i ≡ record core { hands = set core.hands i told_hand } =
    rw phase (ap (λ (h : Standing). record core { hands = set core.hands i h }) (ap (λ (h : Standing). told h (answers.Least core.least)) (sym (same_hand core i hand within is)) ∙ sym tells)) in
    subst (λ (m : Machine). Keeps core m) now (keeps-turned core i sound within)

keeps-post : (core : Machine) (i k least : ℕ) (read hand told_hand : Standing) → IsMachine core → i < length core.hands
    → read ≡ get_or core.hands i read → read.phase ≡ phases.Post k → hand ≡ get_or core.hands i hand → told_hand ≡ told hand (answers.Least core.least)
    → least ≡ min core.least k → Keeps core (record core { least = least; hands = set core.hands i told_hand })
keeps-post core i k least read hand told_hand sound within reads e is tells lowers =
    let phase : (hand_at core i).phase ≡ phases.Post k = ap (λ (h : Standing). h.phase) (sym (same_hand core i read within reads)) ∙ e in
    let now : turned core i ≡ record core { least = min core.least k; hands = set core.hands i told_hand } =
    rw phase (ap (λ (h : Standing). record core { least = min core.least k; hands = set core.hands i h }) (ap (λ (h : Standing). told h (answers.Least core.least)) (sym (same_hand core i hand within is)) ∙ sym tells)) in
    subst (λ (n : ℕ). Keeps core (record core { least = n; hands = set core.hands i told_hand })) (sym lowers)
    (subst (λ (m : Machine). Keeps core m) now (keeps-turned core i sound within))

-- the same of the value that a method was called with, which its fields are seen as
pub claims : (old core : Machine) (i : ℕ) (read hand told_hand : Standing) → core ≡ old → IsMachine core → i < length old.hands
    → read ≡ get_or core.hands i read → read.phase ≡ phases.Claim → hand ≡ get_or core.hands i hand → told_hand ≡ told hand (answers.Block core.next)
    → Keeps old (record core { next = core.next + 1; hands = set core.hands i told_hand })
claims old core i read hand told_hand same sound within reads e is tells =
    subst (λ (m : Machine). i < length m.hands → Keeps m (record core { next = core.next + 1; hands = set core.hands i told_hand })) same
    (λ h. keeps-claim core i read hand told_hand sound h reads e is tells) within

pub looks : (old core : Machine) (i k : ℕ) (read hand told_hand : Standing) → core ≡ old → IsMachine core → i < length old.hands
    → read ≡ get_or core.hands i read → read.phase ≡ phases.Look k → hand ≡ get_or core.hands i hand → told_hand ≡ told hand (answers.Least core.least)
    → Keeps old (record core { hands = set core.hands i told_hand })
looks old core i k read hand told_hand same sound within reads e is tells =
    subst (λ (m : Machine). i < length m.hands → Keeps m (record core { hands = set core.hands i told_hand })) same
    (λ h. keeps-look core i k read hand told_hand sound h reads e is tells) within

pub posts : (old core : Machine) (i k least : ℕ) (read hand told_hand : Standing) → core ≡ old → IsMachine core → i < length old.hands
    → read ≡ get_or core.hands i read → read.phase ≡ phases.Post k → hand ≡ get_or core.hands i hand → told_hand ≡ told hand (answers.Least core.least)
    → least ≡ min core.least k → Keeps old (record core { least = least; hands = set core.hands i told_hand })
posts old core i k least read hand told_hand same sound within reads e is tells lowers =
    subst (λ (m : Machine). i < length m.hands → Keeps m (record core { least = least; hands = set core.hands i told_hand })) same
    (λ h. keeps-post core i k least read hand told_hand sound h reads e is tells lowers) within

pub ends_first : (old core : Machine) (meets : List ℕ) → core ≡ old → IsMachine core → Fits meets old → AllOver old → core.least ≡ first_of old.count meets
ends_first old core meets same sound =
    subst (λ (m : Machine). Fits meets m → AllOver m → core.least ≡ first_of m.count meets) same (λ fits over. over-first core meets sound over fits)

pub ends_covered : (old core : Machine) (left : ℕ → Bool) → core ≡ old → IsMachine core → Covers left old → AllOver old → (n : ℕ) → left n ≡ true → n < core.least → ⊥
ends_covered old core left same sound =
    subst (λ (m : Machine). Covers left m → AllOver m → (n : ℕ) → left n ≡ true → n < core.least → ⊥) same (λ covers over. none_covered core left sound over covers)

-- and of a try that was answered
pub fits-tried : (core : Machine) (i k : ℕ) (met : Bool) (meets : List ℕ) → i < length core.hands → (hand_at core i).phase ≡ phases.Try k
    → met ≡ is_in meets k → Fits meets core → Fits meets (tried core i met)
fits-tried core i k met meets within e says fits = record {
  list = fits.list;
  least = fits.least;
  posts = posts-tried core i k met (is_in meets) within e (λ h. sym says ∙ h) fits.posts;
  covers = covers-tried core i k met (is_in meets) within e (λ h. sym says ∙ h) fits.covers;
}

pub try_phase : (p : Phase) → IsTry p → p ≡ phases.Try (number_in p)
try_phase phases.Claim h = absurd h
try_phase (phases.Look k) h = absurd h
try_phase (phases.Try k) h = refl
try_phase (phases.Post k) h = absurd h
try_phase phases.Over h = absurd h

tried_is : (core : Machine) (i : ℕ) (met : Bool) (hand told_hand : Standing) → i < length core.hands → hand ≡ get_or core.hands i hand → told_hand ≡ told hand (verdict met)
    → tried core i met ≡ record core { hands = set core.hands i told_hand }
tried_is core i met hand told_hand within is tells =
    ap (λ (h : Standing). record core { hands = set core.hands i h }) (ap (λ (h : Standing). told h (verdict met)) (sym (same_hand core i hand within is)) ∙ sym tells)

pub tries_sound : (old core : Machine) (i : ℕ) (met : Bool) (hand told_hand : Standing) → core ≡ old → IsMachine core → i < length old.hands → IsTry (hand_at old i).phase
    → hand ≡ get_or core.hands i hand → told_hand ≡ told hand (verdict met) → IsMachine (record core { hands = set core.hands i told_hand })
tries_sound old core i met hand told_hand same sound =
    subst (λ (m : Machine). i < length m.hands → IsTry (hand_at m i).phase → hand ≡ get_or core.hands i hand → told_hand ≡ told hand (verdict met)
    → IsMachine (record core { hands = set core.hands i told_hand })) same
    (λ within tries is tells. subst (λ (m : Machine). IsMachine m) (tried_is core i met hand told_hand within is tells)
    (machine-tried core i (number_in (hand_at core i).phase) met sound within (try_phase (hand_at core i).phase tries)))

pub tries_fits : (old core : Machine) (i : ℕ) (met : Bool) (meets : List ℕ) (hand told_hand : Standing) → core ≡ old → i < length old.hands → IsTry (hand_at old i).phase
    → hand ≡ get_or core.hands i hand → told_hand ≡ told hand (verdict met)
    → met ≡ is_in meets (number_in (hand_at old i).phase) → Fits meets old → Fits meets (record core { hands = set core.hands i told_hand })
tries_fits old core i met meets hand told_hand same =
    subst (λ (m : Machine). i < length m.hands → IsTry (hand_at m i).phase → hand ≡ get_or core.hands i hand → told_hand ≡ told hand (verdict met)
    → met ≡ is_in meets (number_in (hand_at m i).phase) → Fits meets m → Fits meets (record core { hands = set core.hands i told_hand })) same
    (λ within tries is tells says fits. subst (λ (m : Machine). Fits meets m) (tried_is core i met hand told_hand within is tells)
    (fits-tried core i (number_in (hand_at core i).phase) met meets within (try_phase (hand_at core i).phase tries) says fits))

pub tries_covers : (old core : Machine) (i : ℕ) (met : Bool) (left : ℕ → Bool) (hand told_hand : Standing) → core ≡ old → i < length old.hands → IsTry (hand_at old i).phase
    → hand ≡ get_or core.hands i hand → told_hand ≡ told hand (verdict met)
    → (met ≡ false → left (number_in (hand_at old i).phase) ≡ false) → Covers left old → Covers left (record core { hands = set core.hands i told_hand })
tries_covers old core i met left hand told_hand same =
    subst (λ (m : Machine). i < length m.hands → IsTry (hand_at m i).phase → hand ≡ get_or core.hands i hand → told_hand ≡ told hand (verdict met)
    → (met ≡ false → left (number_in (hand_at m i).phase) ≡ false) → Covers left m → Covers left (record core { hands = set core.hands i told_hand })) same
    (λ within tries is tells misses covers. subst (λ (m : Machine). Covers left m) (tried_is core i met hand told_hand within is tells)
    (covers-tried core i (number_in (hand_at core i).phase) met left within (try_phase (hand_at core i).phase tries) misses covers))
