use Rattle.std.proofs.Common.{◌<◌, length, nat_lt, is_some, Some, None, ◌∙◌, sym, ap, subst, arith}
use Rattle.std.proofs.lemmas.List.{get_or_default}
use Rattle.std.specs.Prelude.{if◌then◌else◌}
use Rattle.search_core.specs.Numbers.{first_of}
use Rattle.search_core.specs.Order.{hands_of, hand_next, events_of}
use Rattle.brute_run.specs.Search.{count_of, meets, all_meeting}
use Rattle.brute_run.specs.Costs.{block_size}
use Rattle.brute_run.specs.Walks.{Walked, fresh_walk, Belongs}
use Rattle.brute_run.proofs.Turning.{IsVisited}
use Rattle.brute_run.proofs.Trying.{IsTried, searching_start, searching_on, searching_try, searching_end}
use Rattle.brute_run.proofs.Totals.{found_is}
use Rattle.brute_run.proofs.order.simulate_by.Goals as goal

pub trying-init : goal.trying-init
trying-init g c = record {
  searching = searching_start g.G.Game c.args.game.now c.args.wants.now c.args.space.now c.args.kept.now c.args.turns.now c.args.steps.now.tics c.walks_of.new.steps.tics
      c.count-count.result (hands_of c.args.turns.now) c.in_ok-walks.walks.items c.in-Ok.search
      c.requires.kept c.count-count.ensures.count c.count-count.ensures.some_sequence c.in-Ok.ensures.core c.hands.ensures.sound c.in-Ok.ensures.follows
      c.in_ok-walks.ensures.walks (c.in_ok-walks.ensures.count ∙ c.hands.ensures.hands) c.in-Ok.ensures.tried c.walks_of.ensures.tics;
  kept = c.walks_of.ensures.kept;
  tics_never_fall = omega (arith, c.walks_of.ensures.tics);
  pages_never_fall = c.walks_of.ensures.pages_never_fall;
}

pub visit-requires-clause-belongs : goal.visit-requires-clause-belongs
visit-requires-clause-belongs g c =
    let is = searching_on g.G.Game c.args.game.now c.args.wants.now c.args.space.now c.args.kept.now c.args.turns.now c.args.steps.now.tics c.trying.steps.tics c.trying.walks.items
    c.trying.search c.next_try.new.self c.trying.invariant.searching c.in-Some.ensures.carries c.in-Some.ensures.sound in
    let within : c.in-Some.trial.hand < length c.trying.walks.items = omega (arith, c.in-Some.ensures.there, is.walks_are) in
    let same = get_or_default c.trying.walks.items c.in-Some.trial.hand (fresh_walk c.args.kept.now) c.index_mut-walk.result.now within ∙ sym c.index_mut-walk.ensures.value in
    subst (λ (walk : Walked _). Belongs g.G.Game c.args.game.now c.args.wants.now c.args.space.now walk) same (is.each c.in-Some.trial.hand within).belongs

pub trying-preserved : goal.trying-preserved
trying-preserved g c =
    let kept = c.trying.invariant in
    let t = c.in-Some.trial in
    let is = searching_on g.G.Game c.args.game.now c.args.wants.now c.args.space.now c.args.kept.now c.args.turns.now c.args.steps.now.tics c.trying.steps.tics c.trying.walks.items
    c.trying.search c.next_try.new.self kept.searching c.in-Some.ensures.carries c.in-Some.ensures.sound in
    let within : t.hand < length c.trying.walks.items = omega (arith, c.in-Some.ensures.there, is.walks_are) in
    let same = get_or_default c.trying.walks.items t.hand (fresh_walk c.args.kept.now) c.index_mut-walk.result.now within ∙ sym c.index_mut-walk.ensures.value in
    let v = c.in_ok-met.ensures in
    let visited = subst (λ (walk : Walked _). IsVisited g.G.Game c.args.game.now c.args.wants.now c.args.space.now walk c.visit.new.self c.trying.steps.tics c.visit.new.steps.tics t.number c.in_ok-met.met) (sym same)
    (record { met_is = v.met; belongs = v.belongs; full = v.full; some_world = v.some_world; kept = v.kept; last = v.last; tics_are = v.tics; nearest = v.nearest }) in
    let told = c.tried.ensures in
    let tries = subst (λ i. IsTried c.next_try.new.self c.tried.new.self c.in_ok-met.met i t.number) (sym c.in-Some.ensures.trial.1)
    (subst (λ k. IsTried c.next_try.new.self c.tried.new.self c.in_ok-met.met (hand_next c.next_try.new.self) k) (sym c.in-Some.ensures.trial.2)
    (record { follows = told.follows; core = told.core; sound = told.sound; have_tried = told.tried; left = told.left })) in
    record {
      searching = searching_try g.G.Game c.args.game.now c.args.wants.now c.args.space.now c.args.kept.now c.args.turns.now c.args.steps.now.tics c.trying.steps.tics c.visit.new.steps.tics
          c.trying.walks.items c.visit.new.self c.next_try.new.self c.tried.new.self t.hand t.number c.in_ok-met.met is c.in-Some.ensures.there c.in-Some.ensures.phase
          (omega (arith, c.in-Some.ensures.within, is.count_is)) visited tries;
      kept = kept.kept;
      tics_never_fall = omega (arith, kept.tics_never_fall, v.tics_never_fall);
      pages_never_fall = omega (arith, kept.pages_never_fall, v.pages_never_fall);
    }

pub returns-clause-first : goal.returns-clause-first
returns-clause-first g c =
    let is = searching_on g.G.Game c.args.game.now c.args.wants.now c.args.space.now c.args.kept.now c.args.turns.now c.args.steps.now.tics c.trying.steps.tics c.trying.walks.items
    c.trying.search c.next_try.new.self c.trying.invariant.searching c.next_try.ensures.carries c.next_try.ensures.sound in
    let none = ap is_some c.in_default-next_try.is in
    let meeting = all_meeting g.G.Game c.args.game.now c.args.kept.now c.args.wants.now c.args.space.now in
    let done = c.next_try.ensures.done none meeting (events_of (count_of c.args.space.now) block_size meeting c.args.turns.now) is.follows in
    let least = c.least.ensures ∙ done.1 ∙ ap (λ n. first_of n meeting) is.count_is in
    c.found.ensures ∙ ap (λ n. if nat_lt c.least.result n then Some c.least.result else None) c.count-count.ensures.count
    ∙ found_is (meets g.G.Game c.args.game.now c.args.kept.now c.args.wants.now c.args.space.now) (count_of c.args.space.now) c.least.result least

pub returns-clause-turns : goal.returns-clause-turns
returns-clause-turns g c =
    let is = searching_on g.G.Game c.args.game.now c.args.wants.now c.args.space.now c.args.kept.now c.args.turns.now c.args.steps.now.tics c.trying.steps.tics c.trying.walks.items
    c.trying.search c.next_try.new.self c.trying.invariant.searching c.next_try.ensures.carries c.next_try.ensures.sound in
    let none = ap is_some c.in_default-next_try.is in
    let meeting = all_meeting g.G.Game c.args.game.now c.args.kept.now c.args.wants.now c.args.space.now in
    let done = c.next_try.ensures.done none meeting (events_of (count_of c.args.space.now) block_size meeting c.args.turns.now) is.follows in
    c.turns.ensures ∙ done.0

pub returns-clause-cost : goal.returns-clause-cost
returns-clause-cost g c =
    let is = searching_on g.G.Game c.args.game.now c.args.wants.now c.args.space.now c.args.kept.now c.args.turns.now c.args.steps.now.tics c.trying.steps.tics c.trying.walks.items
    c.trying.search c.next_try.new.self c.trying.invariant.searching c.next_try.ensures.carries c.next_try.ensures.sound in
    let none = ap is_some c.in_default-next_try.is in
    let meeting = all_meeting g.G.Game c.args.game.now c.args.kept.now c.args.wants.now c.args.space.now in
    let done = c.next_try.ensures.done none meeting (events_of (count_of c.args.space.now) block_size meeting c.args.turns.now) is.follows in
    searching_end g.G.Game c.args.game.now c.args.wants.now c.args.space.now c.args.kept.now c.args.turns.now c.args.steps.now.tics c.trying.steps.tics c.trying.walks.items
    c.next_try.new.self is (c.next_try.ensures.over none) done.1
