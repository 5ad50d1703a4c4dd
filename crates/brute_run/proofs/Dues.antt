-- What is left to a hand of its open block, and what its claims, looks, tries and posts do to it.
use Rattle.std.proofs.Common.{zero, suc, ◌≡◌, ℕ, ◌+◌, ◌-◌, ◌*◌, ◌%◌, ◌<◌, ◌≤◌, inl, inr, Bool, false, min, Option, Some, None, List, [], ◌∷◌, length, nat_eq, refl, sym, ◌∙◌, ap, arith}
use Rattle.std.specs.Prelude.{IfSome, IsSomeAnd}
use Rattle.std.proofs.lemmas.Bool.{cases_eq, cases_lt, cases_Bool, lt-ltb, le-ltb, eq-eqb, ne_eqb}
use Rattle.brute_ranges.specs.Space.{Ranges, sequence_at, shared_front}
use Rattle.search_core.specs.declared.hand.Phase.TheVariants as phases
use Rattle.search_core.specs.declared.hand.Answer.TheVariants as answers
use Rattle.search_core.specs.Numbers.{sum_below}
use Rattle.search_core.specs.Hand.{Standing, told, InOpen, open_end, start_at}
use Rattle.search_core.specs.Trail.{ComesTo}
use Rattle.search_core.specs.Dues.{IsHandFor, AddsNoMore, LosesNone}
use Rattle.brute_run.specs.Search.{count_of}
use Rattle.brute_run.specs.Walks.{Walked, shared_with}
use Rattle.brute_run.specs.Costs.{block_size, new_tics, most_tics, tics_until_met, block_cost}
use Rattle.brute_run.specs.Working.{trail, trail_of, IsFull, most_left, new_below, least_left, least_block}

-- at most
claim_most : (test : ℕ → Bool) (ranges : Ranges) (hand : Standing) (n : ℕ) → IsHandFor (count_of ranges) block_size hand → hand.phase ≡ phases.Claim
    → most_left test ranges (told hand (answers.Block n)) ≤ most_left test ranges hand + block_cost test ranges n
claim_most test ranges hand n is e = elim (cases_lt (n * hand.block) hand.seen) [
  | inl below ↦
      let t = lt-ltb (n * hand.block) hand.seen below in
      let start : n * hand.block ≡ n * block_size = ap (λ b. n * b) is.block_is in
      let numbers : min ((n + 1) * hand.block) hand.count - n * hand.block ≡ min block_size (count_of ranges - n * block_size) = rw (is.block_is, is.count_is) (omega arith) in
      let same : tics_until_met test ranges (n * hand.block) (min ((n + 1) * hand.block) hand.count - n * hand.block) ≡ block_cost test ranges n =
      ap (λ k. tics_until_met test ranges k (min ((n + 1) * hand.block) hand.count - n * hand.block)) start ∙ ap (tics_until_met test ranges (n * block_size)) numbers in
      rw (e, t) (omega (arith, same))
  | inr above ↦ let t = le-ltb (n * hand.block) hand.seen above in rw (e, t) (omega arith)
]

look_most : (test : ℕ → Bool) (ranges : Ranges) (hand : Standing) (k v : ℕ) → hand.phase ≡ phases.Look k
    → most_left test ranges (told hand (answers.Least v)) ≤ most_left test ranges hand
look_most test ranges hand k v e = elim (cases_lt k (min hand.seen v)) [
  | inl below ↦ let t = lt-ltb k (min hand.seen v) below in rw (e, t) (omega arith)
  | inr above ↦ let t = le-ltb k (min hand.seen v) above in rw (e, t) (omega arith)
]

pub most_adds : (test : ℕ → Bool) (ranges : Ranges) → AddsNoMore (count_of ranges) block_size (most_left test ranges) (block_cost test ranges)
most_adds test ranges = record {
  claims = λ hand n is e. claim_most test ranges hand n is e;
  looks = λ hand k v is e. look_most test ranges hand k v e;
  posts = λ hand k v is e. rw e (omega arith);
}

-- a try leaves less, by what it costs at most
at_least_first : (test : ℕ → Bool) (ranges : Ranges) (k n : ℕ) → most_tics ranges k ≤ tics_until_met test ranges k (suc n)
at_least_first test ranges k n = omega arith

rest_missed : (test : ℕ → Bool) (ranges : Ranges) (k n : ℕ) → test k ≡ false → tics_until_met test ranges k (suc n) ≡ most_tics ranges k + tics_until_met test ranges (k + 1) n
rest_missed test ranges k n missed = rw missed refl

ahead : (hand : Standing) (k : ℕ) (count : ℕ) → IsHandFor count block_size hand → hand.phase ≡ phases.Try k → InOpen hand k × (k < hand.seen)
ahead hand k count is e = rw e at is.sound.phase

pub miss_most : (test : ℕ → Bool) (ranges : Ranges) (hand : Standing) (k : ℕ) → IsHandFor (count_of ranges) block_size hand → hand.phase ≡ phases.Try k → test k ≡ false
    → most_left test ranges (told hand answers.Missed) + most_tics ranges k ≤ most_left test ranges hand
miss_most test ranges hand k is e missed =
    let known = ahead hand k (count_of ranges) is e in
    let more : open_end hand - k ≡ suc (open_end hand - (k + 1)) = omega (arith, known.0.1) in
    let whole : tics_until_met test ranges k (open_end hand - k) ≡ most_tics ranges k + tics_until_met test ranges (k + 1) (open_end hand - (k + 1)) =
    ap (tics_until_met test ranges k) more ∙ rest_missed test ranges k (open_end hand - (k + 1)) missed in
    elim (cases_eq (k + 1) (open_end hand)) [
      | inl last ↦ let t = eq-eqb (k + 1) (open_end hand) last in rw (e, t) (omega (arith, whole))
      | inr next ↦ let t = ne_eqb (k + 1) (open_end hand) next in rw (e, t) (omega (arith, whole))
    ]

pub meet_most : (test : ℕ → Bool) (ranges : Ranges) (hand : Standing) (k : ℕ) → IsHandFor (count_of ranges) block_size hand → hand.phase ≡ phases.Try k
    → most_left test ranges (told hand answers.Met) + most_tics ranges k ≤ most_left test ranges hand
meet_most test ranges hand k is e =
    let known = ahead hand k (count_of ranges) is e in
    let more : open_end hand - k ≡ suc (open_end hand - (k + 1)) = omega (arith, known.0.1) in
    let whole = ap (tics_until_met test ranges k) more in
    let first = at_least_first test ranges k (open_end hand - (k + 1)) in
    rw e (omega (arith, whole, first))

-- at least
below_same : (ranges : Ranges) (first a b : ℕ) → min first a ≡ min first b → new_below ranges first a ≡ new_below ranges first b
below_same ranges first a b same = ap (sum_below (new_tics ranges)) same

below_more : (ranges : Ranges) (first k : ℕ) → new_below ranges first (k + 1) ≤ new_below ranges first k + new_tics ranges k
below_more ranges first k = elim (cases_lt k first) [
  | inl below ↦
      let here : min first k ≡ k = omega arith in
      let next : min first (k + 1) ≡ suc k = omega arith in
      let one = ap (sum_below (new_tics ranges)) here in
      let two = ap (sum_below (new_tics ranges)) next in
      omega (arith, one, two)
  | inr above ↦ omega (arith, below_same ranges first (k + 1) k (omega arith))
]

claim_least : (ranges : Ranges) (first : ℕ) (hand : Standing) (n : ℕ) → first ≤ count_of ranges → IsHandFor (count_of ranges) block_size hand → first ≤ hand.seen → hand.phase ≡ phases.Claim
    → least_left ranges first hand + least_block ranges first n ≤ least_left ranges first (told hand (answers.Block n))
claim_least ranges first hand n within is seen e =
    let start : n * hand.block ≡ n * block_size = ap (λ b. n * b) is.block_is in
    elim (cases_lt (n * hand.block) hand.seen) [
      | inl below ↦
          let t = lt-ltb (n * hand.block) hand.seen below in
          let end : min first (min ((n + 1) * hand.block) hand.count) ≡ min first ((n + 1) * block_size) = rw (is.block_is, is.count_is) (omega arith) in
          let ends = below_same ranges first (min ((n + 1) * hand.block) hand.count) ((n + 1) * block_size) end in
          let starts = ap (new_below ranges first) start in
          rw (e, t) (omega (arith, ends, starts))
      | inr above ↦
          let t = le-ltb (n * hand.block) hand.seen above in
          let none = below_same ranges first ((n + 1) * block_size) (n * block_size) (omega arith) in
          rw (e, t) (omega (arith, none))
    ]

look_least : (ranges : Ranges) (first : ℕ) (hand : Standing) (k v : ℕ) → IsHandFor (count_of ranges) block_size hand → first ≤ hand.seen → first ≤ v → hand.phase ≡ phases.Look k
    → least_left ranges first hand ≤ least_left ranges first (told hand (answers.Least v))
look_least ranges first hand k v is seen below_v e =
    let inside : InOpen hand k = rw e at is.sound.phase in
    elim (cases_lt k (min hand.seen v)) [
      | inl below ↦ let t = lt-ltb k (min hand.seen v) below in rw (e, t) (omega arith)
      | inr above ↦
          let t = le-ltb k (min hand.seen v) above in
          let none = below_same ranges first (open_end hand) k (omega (arith, inside.1)) in
          rw (e, t) (omega (arith, none))
    ]

pub least_keeps : (ranges : Ranges) (first : ℕ) → first ≤ count_of ranges → LosesNone first (count_of ranges) block_size (least_left ranges first) (least_block ranges first)
least_keeps ranges first within = record {
  claims = λ hand n is seen e. claim_least ranges first hand n within is seen e;
  looks = λ hand k v is seen least e. look_least ranges first hand k v is seen least e;
  posts = λ hand k v is seen least e. rw e (omega arith);
}

pub miss_least : (ranges : Ranges) (first : ℕ) (hand : Standing) (k : ℕ) → IsHandFor (count_of ranges) block_size hand → hand.phase ≡ phases.Try k
    → least_left ranges first hand ≤ least_left ranges first (told hand answers.Missed) + new_tics ranges k
miss_least ranges first hand k is e =
    let step = below_more ranges first k in
    elim (cases_eq (k + 1) (open_end hand)) [
      | inl last ↦
          let t = eq-eqb (k + 1) (open_end hand) last in
          let ends = ap (new_below ranges first) last in
          rw (e, t) (omega (arith, step, ends))
      | inr next ↦ let t = ne_eqb (k + 1) (open_end hand) next in rw (e, t) (omega (arith, step))
    ]

pub meet_least : (ranges : Ranges) (first : ℕ) (hand : Standing) (k : ℕ) → first ≤ k → IsHandFor (count_of ranges) block_size hand → hand.phase ≡ phases.Try k
    → least_left ranges first hand ≤ least_left ranges first (told hand answers.Met) + new_tics ranges k
meet_least ranges first hand k past is e =
    let known = ahead hand k (count_of ranges) is e in
    let none = below_same ranges first (open_end hand) k (omega (arith, known.0.1)) in
    rw e (omega (arith, none))

-- what a visit costs
whole_block : (test : ℕ → Bool) (ranges : Ranges) (k : ℕ) → k % block_size ≡ 0 → most_tics ranges k ≡ length ranges.tics
whole_block test ranges k start = let t = eq-eqb (k % block_size) 0 start in rw t refl

new_or_all : (ranges : Ranges) (k : ℕ) → new_tics ranges k ≤ most_tics ranges k
new_or_all ranges k = elim (cases_Bool (nat_eq (k % block_size) 0)) [
  | inl start ↦ rw start (omega arith)
  | inr later ↦ rw later (omega arith)
]

block_starts : (last : Option ℕ) (block k : ℕ) → block ≡ block_size → start_at block last ≡ k → k % block_size ≡ 0
block_starts None block k size is = omega arith
block_starts (Some n) block k size is = let whole : n * block_size ≡ k = ap (λ b. n * b) (sym size) ∙ is in omega (arith, whole)

next_costs : {W : Type 0} (ranges : Ranges) (worlds : List W) (walk : Walked W) (k : ℕ) → walk.worlds ≡ worlds → IsFull ranges walk → IsSomeAnd (trail_of worlds walk.last) (λ j. j + 1 ≡ k)
    → length ranges.tics - shared_with walk ranges k ≤ new_tics ranges k
next_costs ranges [] walk k are full next = absurd next
next_costs ranges (w ∷ ws) walk k are full next =
    let after : k ≡ suc walk.last = omega (arith, next) in
    let len : length walk.worlds ≡ suc (length ws) = ap length are in
    let deep : length walk.worlds ≡ length ranges.tics = elim full [ inl empty ↦ absurd (omega (arith, ap length empty, len)) | inr whole ↦ whole ] in
    rw after (omega (arith, deep))

pub visit_most : {W : Type 0} (ranges : Ranges) (walk : Walked W) (hand : Standing) (k : ℕ) → IsFull ranges walk → hand.block ≡ block_size → ComesTo (trail walk) hand k
    → length ranges.tics - shared_with walk ranges k ≤ most_tics ranges k
visit_most ranges walk hand k full size comes = elim comes.next [
  | inl start ↦ omega (arith, whole_block (λ _. false) ranges k (block_starts hand.last hand.block k size start))
  | inr next ↦ omega (arith, next_costs ranges walk.worlds walk k refl full next, new_or_all ranges k)
]

least_costs : {W : Type 0} (ranges : Ranges) (worlds : List W) (walk : Walked W) (k : ℕ) → walk.worlds ≡ worlds → IfSome (trail_of worlds walk.last) (λ j. j < k)
    → ((m : ℕ) → walk.last ≤ m → m ≤ k → shared_with walk ranges k ≤ shared_front (sequence_at ranges m) (sequence_at ranges k))
    → new_tics ranges k ≤ length ranges.tics - shared_with walk ranges k
least_costs ranges [] walk k are above nearest = let none : length walk.worlds ≡ 0 = ap length are in omega (arith, none)
least_costs ranges (w ∷ ws) walk zero are above nearest = absurd (omega (arith, above))
least_costs ranges (w ∷ ws) walk (suc k) are above nearest =
    let before : walk.last ≤ k = omega (arith, above) in
    let within : k ≤ suc k = omega arith in
    omega (arith, nearest k before within)

pub visit_least : {W : Type 0} (ranges : Ranges) (walk : Walked W) (hand : Standing) (k : ℕ) → ComesTo (trail walk) hand k
    → ((m : ℕ) → walk.last ≤ m → m ≤ k → shared_with walk ranges k ≤ shared_front (sequence_at ranges m) (sequence_at ranges k))
    → new_tics ranges k ≤ length ranges.tics - shared_with walk ranges k
visit_least ranges walk hand k comes nearest = least_costs ranges walk.worlds walk k refl comes.above nearest
