-- What a turn of a worker keeps.
use Rattle.std.proofs.Common.{◌≡◌, ℕ, ◌+◌, ◌-◌, ◌*◌, ◌^◌, ◌<◌, ◌≤◌, inr, Bool, true, false, min, Option, Some, None, List, [], ◌∷◌, ◌++◌, length, Contains, refl, sym, ◌∙◌, ap, subst, arith}
use Rattle.std.specs.Prelude.{IfSome, sum_by}
use Rattle.std.specs.Option.{ForSome}
use Rattle.std.proofs.lemmas.List.Sums.{sum_by-append, sum_by-cons}
use Rattle.doom_edge.specs.Counts.{Counts, raised, raised-at_most}
use Rattle.game_trait.specs.declared.game.Game.{Ghosts}
use Rattle.brute_ranges.specs.Space.{Ranges, sequence_at, shared_front}
use Rattle.brute_targets.specs.declared.want.Want.{Want}
use Rattle.search_core.specs.declared.hand.Phase.{Phase}
use Rattle.search_core.specs.declared.hand.Phase.TheVariants as phases
use Rattle.search_core.specs.declared.hand.Answer.{Answer}
use Rattle.search_core.specs.declared.hand.Answer.TheVariants as answers
use Rattle.search_core.specs.Hand.{Standing, told, IsHand, InOpen, LeavesNone, NoneLeft, PostsMet, HoldsIfMissed, HoldsIfMet, number_in}
use Rattle.search_core.specs.Machine.{verdict}
use Rattle.search_core.specs.Trail.{ComesTo, HasTriedIn, HasTried, ClaimsAbove, tried_after}
use Rattle.claim_board.specs.declared.view.View.{View}
use Rattle.claim_board.specs.Seated.{Seated}
use Rattle.claim_board.specs.Views.{claimed, looked, posted, IsInOpenBlock, HasTriedOpenBlock, IsLeastWord}
use Rattle.brute_run.specs.Search.{count_of, meets}
use Rattle.brute_run.specs.Walks.{Walked, Belongs, shared_with}
use Rattle.brute_run.specs.Costs.{new_tics, most_tics, block_cost}
use Rattle.brute_run.specs.Working.{Working, trail, trail_of, IsWalking, passing, first_passing, IsSeatedFor, most_left, least_left, least_block, IsPaid, IsAtWork}
use Rattle.brute_run.proofs.Passing.{has_passing, passes_of, first_passing-le, first_passing-within, word_not_below}
use Rattle.brute_run.proofs.Dues.{most_adds, least_keeps, miss_most, meet_most, miss_least, meet_least, visit_most, visit_least}

-- what the call that tells a hand says of it
pub record IsTold (hand : Standing) (answer : Answer) (now : Standing) : Type 0 where
  pub told_is : now ≡ told hand answer
  pub sound : IsHand now
  pub leaves : (left : ℕ → Bool) → HoldsIfMissed left hand answer → LeavesNone left hand → LeavesNone left now
  pub posts : (meets : ℕ → Bool) → HoldsIfMet meets hand answer → PostsMet meets now
  pub tried : (last : Option ℕ) → ClaimsAbove hand answer → HasTried last hand → HasTried (tried_after last hand answer) now

-- a claim may be made where no number of the open block is left
pub may_claim : (count : ℕ) (test : ℕ → Bool) (hand : Standing) (view : View) → IsSeatedFor count test hand view → NoneLeft test hand → HasTriedOpenBlock view
may_claim count test hand view s none k inside below has =
    let has' : Contains (passing test count) k = subst (λ (ms : List ℕ). Contains ms k) s.meets_are has in
    none k (passes_of test count k has') (in_open inside) (omega (arith, s.seen))
  where
    in_open : IsInOpenBlock view k → InOpen hand k
    in_open (n, last, inside) =
        let size : view.block ≡ hand.block = s.block_is ∙ sym s.hand_for.block_is in
        let here : hand.last ≡ Some n = s.last ∙ last in
        let low' : n * hand.block ≤ k = subst (λ b. n * b ≤ k) size inside.0 in
        let high' : k < (n + 1) * hand.block = subst (λ b. k < (n + 1) * b) size inside.1 in
        rw here (low', omega (arith, inside.2, s.count_is, s.hand_for.count_is))

-- a number that is to be posted meets
pub may_post : (count : ℕ) (test : ℕ → Bool) (hand : Standing) (view : View) (k : ℕ) → IsSeatedFor count test hand view → InOpen hand k → k < hand.seen → test k ≡ true
    → Contains view.meets k
may_post count test hand view k s inside below passes =
    subst (λ (ms : List ℕ). Contains ms k) (sym s.meets_are) (has_passing test count k (omega (arith, s.hand_for.sound.seen, s.hand_for.count_is)) passes)

-- the hand and the seat
seated_claim : (count : ℕ) (test : ℕ → Bool) (hand now : Standing) (view after : View) (n : ℕ) → IsSeatedFor count test hand view → hand.phase ≡ phases.Claim
    → IsTold hand (answers.Block n) now → after ≡ claimed view n → IsSeatedFor count test now after
seated_claim count test hand now view after n s e tells views =
    let count' : (told hand (answers.Block n)).count ≡ hand.count = rw e refl in
    let block' : (told hand (answers.Block n)).block ≡ hand.block = rw e refl in
    let seen' : (told hand (answers.Block n)).seen ≡ hand.seen = rw e refl in
    let last' : (told hand (answers.Block n)).last ≡ Some n = rw e refl in
    let is = tells.told_is in
    record {
      hand_for = record { count_is = ap (λ (h : Standing). h.count) is ∙ count' ∙ s.hand_for.count_is; block_is = ap (λ (h : Standing). h.block) is ∙ block' ∙ s.hand_for.block_is; sound = tells.sound };
      count_is = ap (λ (v : View). v.count) views ∙ s.count_is;
      block_is = ap (λ (v : View). v.block) views ∙ s.block_is;
      meets_are = ap (λ (v : View). v.meets) views ∙ s.meets_are;
      seen = ap (λ (h : Standing). h.seen) is ∙ seen' ∙ s.seen ∙ sym (ap (λ (v : View). v.seen) views);
      last = ap (λ (h : Standing). h.last) is ∙ last' ∙ sym (ap (λ (v : View). v.last) views);
      leaves = tells.leaves test tt s.leaves;
      posts = tells.posts test tt;
      first = omega (arith, s.first, ap (λ (h : Standing). h.seen) is, seen');
    }

seated_least : (count : ℕ) (test : ℕ → Bool) (hand now : Standing) (view after : View) (v seen : ℕ) → IsSeatedFor count test hand view
    → (told hand (answers.Least v)).count ≡ hand.count → (told hand (answers.Least v)).block ≡ hand.block → (told hand (answers.Least v)).last ≡ hand.last → (told hand (answers.Least v)).seen ≡ seen
    → first_passing test count ≤ seen → IsTold hand (answers.Least v) now → after ≡ record view { seen = seen } → IsSeatedFor count test now after
seated_least count test hand now view after v seen s count' block' last' seen' first tells views =
    let is = tells.told_is in
    record {
      hand_for = record { count_is = ap (λ (h : Standing). h.count) is ∙ count' ∙ s.hand_for.count_is; block_is = ap (λ (h : Standing). h.block) is ∙ block' ∙ s.hand_for.block_is; sound = tells.sound };
      count_is = ap (λ (v : View). v.count) views ∙ s.count_is;
      block_is = ap (λ (v : View). v.block) views ∙ s.block_is;
      meets_are = ap (λ (v : View). v.meets) views ∙ s.meets_are;
      seen = ap (λ (h : Standing). h.seen) is ∙ seen' ∙ sym (ap (λ (v : View). v.seen) views);
      last = ap (λ (h : Standing). h.last) is ∙ last' ∙ s.last ∙ sym (ap (λ (v : View). v.last) views);
      leaves = tells.leaves test tt s.leaves;
      posts = tells.posts test tt;
      first = omega (arith, first, ap (λ (h : Standing). h.seen) is, seen');
    }

seated_look : (count : ℕ) (test : ℕ → Bool) (hand now : Standing) (view after : View) (k v : ℕ) → IsSeatedFor count test hand view → hand.phase ≡ phases.Look k
    → IsLeastWord view v → v ≤ view.seen → IsTold hand (answers.Least v) now → after ≡ looked view v → IsSeatedFor count test now after
seated_look count test hand now view after k v s e word falls tells views =
    seated_least count test hand now view after v v s (rw e refl) (rw e refl) (rw e refl) (rw e (omega (arith, s.seen))) (word_not_below test count view.count v view.meets s.count_is s.meets_are word) tells views

seated_post : (count : ℕ) (test : ℕ → Bool) (hand now : Standing) (view after : View) (k v : ℕ) → IsSeatedFor count test hand view → hand.phase ≡ phases.Post k → test k ≡ true
    → IsLeastWord view v → v ≤ view.seen → IsTold hand (answers.Least v) now → after ≡ posted view v k → IsSeatedFor count test now after
seated_post count test hand now view after k v s e passes word falls tells views =
    let known : InOpen hand k × (k < hand.seen) = rw e at s.hand_for.sound.phase in
    let first = first_passing-le test count k (omega (arith, known.1, s.hand_for.sound.seen, s.hand_for.count_is)) passes in
    seated_least count test hand now view after v (min v k) s (rw e refl) (rw e refl) (rw e refl) (rw e (omega (arith, s.seen)))
    (omega (arith, first, word_not_below test count view.count v view.meets s.count_is s.meets_are word)) tells views

seated_try : (count : ℕ) (test : ℕ → Bool) (hand now : Standing) (view : View) (k : ℕ) (met : Bool) → IsSeatedFor count test hand view → hand.phase ≡ phases.Try k → met ≡ test k
    → IsTold hand (verdict met) now → IsSeatedFor count test now view
seated_try count test hand now view k met s e says tells = by_verdict met says tells
  where
    number : number_in hand.phase ≡ k
    number = ap number_in e

    by_verdict : (b : Bool) → b ≡ test k → IsTold hand (verdict b) now → IsSeatedFor count test now view
    by_verdict true says' tells' =
        let count' : (told hand answers.Met).count ≡ hand.count = rw e refl in
        let block' : (told hand answers.Met).block ≡ hand.block = rw e refl in
        let seen' : (told hand answers.Met).seen ≡ hand.seen = rw e refl in
        let last' : (told hand answers.Met).last ≡ hand.last = rw e refl in
        let is = tells'.told_is in
        record {
          hand_for = record { count_is = ap (λ (h : Standing). h.count) is ∙ count' ∙ s.hand_for.count_is; block_is = ap (λ (h : Standing). h.block) is ∙ block' ∙ s.hand_for.block_is; sound = tells'.sound };
          count_is = s.count_is;
          block_is = s.block_is;
          meets_are = s.meets_are;
          seen = ap (λ (h : Standing). h.seen) is ∙ seen' ∙ s.seen;
          last = ap (λ (h : Standing). h.last) is ∙ last' ∙ s.last;
          leaves = tells'.leaves test tt s.leaves;
          posts = tells'.posts test (ap test number ∙ sym says');
          first = omega (arith, s.first, ap (λ (h : Standing). h.seen) is, seen');
        }
    by_verdict false says' tells' =
        let count' : (told hand answers.Missed).count ≡ hand.count = rw e refl in
        let block' : (told hand answers.Missed).block ≡ hand.block = rw e refl in
        let seen' : (told hand answers.Missed).seen ≡ hand.seen = rw e refl in
        let last' : (told hand answers.Missed).last ≡ hand.last = rw e refl in
        let is = tells'.told_is in
        record {
          hand_for = record { count_is = ap (λ (h : Standing). h.count) is ∙ count' ∙ s.hand_for.count_is; block_is = ap (λ (h : Standing). h.block) is ∙ block' ∙ s.hand_for.block_is; sound = tells'.sound };
          count_is = s.count_is;
          block_is = s.block_is;
          meets_are = s.meets_are;
          seen = ap (λ (h : Standing). h.seen) is ∙ seen' ∙ s.seen;
          last = ap (λ (h : Standing). h.last) is ∙ last' ∙ s.last;
          leaves = tells'.leaves test (ap test number ∙ sym says') s.leaves;
          posts = tells'.posts test tt;
          first = omega (arith, s.first, ap (λ (h : Standing). h.seen) is, seen');
        }

-- the counter
one_block : (f : ℕ → ℕ) (mine after : List ℕ) (n : ℕ) → after ≡ mine ++ n ∷ [] → sum_by f after ≡ sum_by f mine + f n
one_block f mine after n is =
    let one : sum_by f (n ∷ []) ≡ f n = omega (arith, sum_by-cons f n []) in
    ap (sum_by f) is ∙ omega (arith, sum_by-append f mine (n ∷ []), one)

paid_claim : (test : ℕ → Bool) (ranges : Ranges) (tics : ℕ) (hand now : Standing) (view after : View) (n : ℕ) → IsSeatedFor (count_of ranges) test hand view → hand.phase ≡ phases.Claim
    → now ≡ told hand (answers.Block n) → after ≡ claimed view n → IsPaid test ranges tics hand view → IsPaid test ranges tics now after
paid_claim test ranges tics hand now view after n s e tells views paid =
    let first : ℕ = first_passing test (count_of ranges) in
    let mines = ap (λ (v : View). v.mine) views in
    let adds = (most_adds test ranges).claims hand n s.hand_for e in
    let keeps = (least_keeps ranges first (first_passing-within test (count_of ranges))).claims hand n s.hand_for s.first e in
    record {
      most = omega (arith, paid.most, adds, ap (most_left test ranges) tells, one_block (block_cost test ranges) view.mine after.mine n mines);
      least = omega (arith, paid.least, keeps, ap (least_left ranges first) tells, one_block (least_block ranges first) view.mine after.mine n mines);
    }

paid_least : (test : ℕ → Bool) (ranges : Ranges) (tics : ℕ) (hand now : Standing) (view after : View) → after.mine ≡ view.mine
    → most_left test ranges now ≤ most_left test ranges hand
    → least_left ranges (first_passing test (count_of ranges)) hand ≤ least_left ranges (first_passing test (count_of ranges)) now
    → IsPaid test ranges tics hand view → IsPaid test ranges tics now after
paid_least test ranges tics hand now view after mines most least paid = record {
  most = omega (arith, paid.most, most, ap (sum_by (block_cost test ranges)) mines);
  least = omega (arith, paid.least, least, ap (sum_by (least_block ranges (first_passing test (count_of ranges)))) mines);
}

counted_most : (tics after cost most left left' paid : ℕ) → after ≡ raised tics cost → cost ≤ most → left' + most ≤ left → tics + left ≤ paid → after + left' ≤ paid
counted_most tics after cost most left left' paid is within less so = omega (arith, raised-at_most tics cost)

counted_least : (tics after cost least left left' paid : ℕ) → after ≡ raised tics cost → least ≤ cost → left ≤ left' + least → min paid (2 ^ 64 - 1) ≤ tics + left
    → min paid (2 ^ 64 - 1) ≤ after + left'
unfolding raised
counted_least tics after cost least left left' paid is within less so = omega arith

paid_try : (test : ℕ → Bool) (ranges : Ranges) (tics later cost : ℕ) (hand now : Standing) (view : View) (k : ℕ) (met : Bool) → IsSeatedFor (count_of ranges) test hand view → hand.phase ≡ phases.Try k
    → met ≡ test k → now ≡ told hand (verdict met) → later ≡ raised tics cost → cost ≤ most_tics ranges k → new_tics ranges k ≤ cost
    → IsPaid test ranges tics hand view → IsPaid test ranges later now view
paid_try test ranges tics later cost hand now view k met s e says tells counted most least paid = by_verdict met says tells
  where
    first : ℕ
    first = first_passing test (count_of ranges)

    all : (left' least' : ℕ) → left' + most_tics ranges k ≤ most_left test ranges hand → least_left ranges (first_passing test (count_of ranges)) hand ≤ least' + new_tics ranges k
        → most_left test ranges now ≡ left' → least_left ranges (first_passing test (count_of ranges)) now ≡ least' → IsPaid test ranges later now view
    all left' least' fewer more is is' = record {
      most = rw is (counted_most tics later cost (most_tics ranges k) (most_left test ranges hand) left' (sum_by (block_cost test ranges) view.mine) counted most fewer paid.most);
      least = rw is' (counted_least tics later cost (new_tics ranges k) (least_left ranges (first_passing test (count_of ranges)) hand) least'
          (sum_by (least_block ranges (first_passing test (count_of ranges))) view.mine) counted least more paid.least);
    }

    by_verdict : (b : Bool) → b ≡ test k → now ≡ told hand (verdict b) → IsPaid test ranges later now view
    by_verdict true says' tells' =
        let known : InOpen hand k × (k < hand.seen) = rw e at s.hand_for.sound.phase in
        let past : first_passing test (count_of ranges) ≤ k = first_passing-le test (count_of ranges) k (omega (arith, known.1, s.hand_for.sound.seen, s.hand_for.count_is)) (sym says') in
        all (most_left test ranges (told hand answers.Met)) (least_left ranges (first_passing test (count_of ranges)) (told hand answers.Met))
        (meet_most test ranges hand k s.hand_for e) (meet_least ranges (first_passing test (count_of ranges)) hand k past s.hand_for e)
        (ap (most_left test ranges) tells') (ap (least_left ranges (first_passing test (count_of ranges))) tells')
    by_verdict false says' tells' =
        all (most_left test ranges (told hand answers.Missed)) (least_left ranges (first_passing test (count_of ranges)) (told hand answers.Missed))
        (miss_most test ranges hand k s.hand_for e (sym says')) (miss_least ranges (first_passing test (count_of ranges)) hand k s.hand_for e)
        (ap (most_left test ranges) tells') (ap (least_left ranges (first_passing test (count_of ranges))) tells')

-- the whole of a worker
above_some : (last view_last : Option ℕ) (n : ℕ) → last ≡ view_last → ForSome view_last (λ m. m < n) → IfSome last (λ m. m < n)
above_some None view_last n same above = tt
above_some (Some m) view_last n same above = above m (sym same)

walking_on : {G W : Type 0} (rules : Ghosts G W) (game : G) (wants : List Want) (ranges : Ranges) (hand now : Standing) (walk : Walked W)
    → IsWalking rules game wants ranges hand walk → HasTried (trail walk) now → IsWalking rules game wants ranges now walk
walking_on rules game wants ranges hand now walk is tried = record { belongs = is.belongs; full = is.full; tried = tried }

pub turn_claim : {G W : Type 0} (rules : Ghosts G W) (game : G) (wants : List Want) (ranges : Ranges) (hand now : Standing) (seat after : Seated) (walk : Walked W) (steps : Counts) (n : ℕ)
    → (let old : Working W = record { hand = hand; seat = seat; walk = walk; steps = steps } in IsAtWork rules game wants ranges old)
    → hand.phase ≡ phases.Claim → ForSome seat.view.last (λ m. m < n) → IsTold hand (answers.Block n) now → after ≡ record seat { view = claimed seat.view n }
    → (let new : Working W = record { hand = now; seat = after; walk = walk; steps = steps } in IsAtWork rules game wants ranges new)
turn_claim rules game wants ranges hand now seat after walk steps n is e above tells seats =
    let test : ℕ → Bool = meets rules game walk.kept wants ranges in
    let views : after.view ≡ claimed seat.view n = ap (λ (s : Seated). s.view) seats in
    record {
      walking = walking_on rules game wants ranges hand now walk is.walking (tells.tried (trail walk) (above_some hand.last seat.view.last n is.seated.last above) is.walking.tried);
      seated = seated_claim (count_of ranges) test hand now seat.view after.view n is.seated e tells views;
      paid = paid_claim test ranges steps.tics hand now seat.view after.view n is.seated e tells.told_is views is.paid;
    }

pub turn_look : {G W : Type 0} (rules : Ghosts G W) (game : G) (wants : List Want) (ranges : Ranges) (hand now : Standing) (seat after : Seated) (walk : Walked W) (steps : Counts) (k v : ℕ)
    → (let old : Working W = record { hand = hand; seat = seat; walk = walk; steps = steps } in IsAtWork rules game wants ranges old)
    → hand.phase ≡ phases.Look k → IsLeastWord seat.view v → v ≤ seat.view.seen → IsTold hand (answers.Least v) now → after ≡ record seat { view = looked seat.view v }
    → (let new : Working W = record { hand = now; seat = after; walk = walk; steps = steps } in IsAtWork rules game wants ranges new)
turn_look rules game wants ranges hand now seat after walk steps k v is e word falls tells seats =
    let test : ℕ → Bool = meets rules game walk.kept wants ranges in
    let views : after.view ≡ looked seat.view v = ap (λ (s : Seated). s.view) seats in
    let s = is.seated in
    let first = word_not_below test (count_of ranges) seat.view.count v seat.view.meets s.count_is s.meets_are word in
    record {
      walking = walking_on rules game wants ranges hand now walk is.walking (tells.tried (trail walk) tt is.walking.tried);
      seated = seated_look (count_of ranges) test hand now seat.view after.view k v s e word falls tells views;
      paid = paid_least test ranges steps.tics hand now seat.view after.view (ap (λ (v : View). v.mine) views)
          (omega (arith, (most_adds test ranges).looks hand k v s.hand_for e, ap (most_left test ranges) tells.told_is))
          (omega (arith, (least_keeps ranges (first_passing test (count_of ranges)) (first_passing-within test (count_of ranges))).looks hand k v s.hand_for s.first first e, ap (least_left ranges (first_passing test (count_of ranges))) tells.told_is))
          is.paid;
    }

pub turn_post : {G W : Type 0} (rules : Ghosts G W) (game : G) (wants : List Want) (ranges : Ranges) (hand now : Standing) (seat after : Seated) (walk : Walked W) (steps : Counts) (k v : ℕ)
    → (let old : Working W = record { hand = hand; seat = seat; walk = walk; steps = steps } in IsAtWork rules game wants ranges old)
    → hand.phase ≡ phases.Post k → IsLeastWord seat.view v → v ≤ seat.view.seen → IsTold hand (answers.Least v) now → after ≡ record seat { view = posted seat.view v k }
    → (let new : Working W = record { hand = now; seat = after; walk = walk; steps = steps } in IsAtWork rules game wants ranges new)
turn_post rules game wants ranges hand now seat after walk steps k v is e word falls tells seats =
    let test : ℕ → Bool = meets rules game walk.kept wants ranges in
    let views : after.view ≡ posted seat.view v k = ap (λ (s : Seated). s.view) seats in
    let s = is.seated in
    let first = word_not_below test (count_of ranges) seat.view.count v seat.view.meets s.count_is s.meets_are word in
    record {
      walking = walking_on rules game wants ranges hand now walk is.walking (tells.tried (trail walk) tt is.walking.tried);
      seated = seated_post (count_of ranges) test hand now seat.view after.view k v s e (rw e at s.posts) word falls tells views;
      paid = paid_least test ranges steps.tics hand now seat.view after.view (ap (λ (v : View). v.mine) views)
          (omega (arith, (most_adds test ranges).posts hand k v s.hand_for e, ap (most_left test ranges) tells.told_is))
          (omega (arith, (least_keeps ranges (first_passing test (count_of ranges)) (first_passing-within test (count_of ranges))).posts hand k v s.hand_for s.first first e, ap (least_left ranges (first_passing test (count_of ranges))) tells.told_is))
          is.paid;
    }

-- what a visit says
pub record IsVisited {G W : Type 0} (rules : Ghosts G W) (game : G) (wants : List Want) (ranges : Ranges) (walk later : Walked W) (tics after k : ℕ) (met : Bool) : Type 0 where
  pub met_is : met ≡ meets rules game walk.kept wants ranges k
  pub belongs : Belongs rules game wants ranges later
  pub full : length later.worlds ≡ length ranges.tics
  pub some_world : 0 < length later.worlds
  pub kept : later.kept ≡ walk.kept
  pub last : later.last ≡ k
  pub tics_are : after ≡ raised tics (length ranges.tics - shared_with walk ranges k)
  pub nearest : (m : ℕ) → walk.last ≤ m → m ≤ k → shared_with walk ranges k ≤ shared_front (sequence_at ranges m) (sequence_at ranges k)

trail_some : {W : Type 0} (worlds : List W) (last k : ℕ) → 0 < length worlds → last ≡ k → trail_of worlds last ≡ Some k
trail_some [] last k some_world is = absurd (omega arith)
trail_some (w ∷ ws) last k some_world is = ap Some is

tried_number : (last : Option ℕ) (hand : Standing) (met : Bool) → tried_after last hand (verdict met) ≡ Some (number_in hand.phase)
tried_number last hand true = refl
tried_number last hand false = refl

none_above : (hand : Standing) (met : Bool) → ClaimsAbove hand (verdict met)
none_above hand true = tt
none_above hand false = tt

pub turn_try : {G W : Type 0} (rules : Ghosts G W) (game : G) (wants : List Want) (ranges : Ranges) (hand now : Standing) (seat : Seated) (walk later : Walked W) (steps counted : Counts) (k : ℕ) (met : Bool)
    → (let old : Working W = record { hand = hand; seat = seat; walk = walk; steps = steps } in IsAtWork rules game wants ranges old)
    → hand.phase ≡ phases.Try k → IsVisited rules game wants ranges walk later steps.tics counted.tics k met → IsTold hand (verdict met) now
    → (let new : Working W = record { hand = now; seat = seat; walk = later; steps = counted } in IsAtWork rules game wants ranges new)
turn_try {W = W} rules game wants ranges hand now seat walk later steps counted k met is e visit tells =
    let test : ℕ → Bool = meets rules game walk.kept wants ranges in
    let s = is.seated in
    let comes : ComesTo (trail walk) hand k = subst (λ (p : Phase). HasTriedIn (trail walk) hand p) e is.walking.tried in
    let tried = tells.tried (trail walk) (none_above hand met) is.walking.tried in
    let last : tried_after (trail walk) hand (verdict met) ≡ trail later =
    tried_number (trail walk) hand met ∙ ap Some (ap number_in e) ∙ sym (trail_some later.worlds later.last k visit.some_world visit.last) in
    let same : IsSeatedFor (count_of ranges) test now seat.view = seated_try (count_of ranges) test hand now seat.view k met s e visit.met_is tells in
    let paid : IsPaid test ranges counted.tics now seat.view =
    paid_try test ranges steps.tics counted.tics (length ranges.tics - shared_with walk ranges k) hand now seat.view k met s e visit.met_is tells.told_is visit.tics_are
    (visit_most ranges walk hand k is.walking.full s.hand_for.block_is comes) (visit_least ranges walk hand k comes visit.nearest) is.paid in
    record {
      walking = record { belongs = visit.belongs; full = inr visit.full; tried = subst (λ (o : Option ℕ). HasTried o now) last tried };
      seated = subst (λ (v : W). IsSeatedFor (count_of ranges) (meets rules game v wants ranges) now seat.view) (sym visit.kept) same;
      paid = subst (λ (v : W). IsPaid (meets rules game v wants ranges) ranges counted.tics now seat.view) (sym visit.kept) paid;
    }
