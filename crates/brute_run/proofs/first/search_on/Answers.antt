use Rattle.std.proofs.Common.{◌≡◌, ◌+◌, length, nat_lt, Some, None, refl, sym, ◌∙◌, ap, subst, arith}
use Rattle.std.specs.Prelude.{All, if◌then◌else◌}
use Rattle.search_core.specs.Numbers.{first_of}
use Rattle.claim_board.specs.declared.view.View.{View}
use Rattle.claim_board.specs.Views.{split_off}
use Rattle.brute_run.specs.Search.{count_of, meets, all_meeting}
use Rattle.brute_run.specs.Walks.{fresh_walk}
use Rattle.brute_run.specs.Working.{Working, start_of, IsAtWork, IsInCrew, HasWorked}
use Rattle.brute_run.proofs.Starting.{new_seat, start_work, start_crew}
use Rattle.brute_run.proofs.Totals.{found_is, played_cost}
use Rattle.brute_run.proofs.first.search_on.Goals as goal

pub fan_out-requires-clause-work : goal.fan_out-requires-clause-work
fan_out-requires-clause-work g c κs within =
    let test = meets g.G.Game c.args.game.now c.args.walk.kept c.args.wants.now c.args.space.now in
    let list = all_meeting g.G.Game c.args.game.now c.args.walk.kept c.args.wants.now c.args.space.now in
    let count = c.count-count.ensures in
    let seat = c.crew_of.new.seat in
    let is = c.crew_of.ensures.view ∙ ap (λ (v : View). record v { spare = c.crew_of.new.seat.view.spare }) c.requires.view in
    let new = new_seat test (count_of c.args.space.now) seat.view.spare list seat.view is refl in
    let work = start_work g.G.Game c.args.game.now c.args.wants.now c.args.space.now c.args.walk.kept seat c.requires.fits (omega (arith, count.count, count.some_sequence)) (omega (arith, count.count, count.few)) new in
    let e = c.new_worker-first.ensures ∙ ap (λ n. start_of n seat c.args.walk) count.count ∙ ap (start_of (count_of c.args.space.now) seat) c.requires.fresh in
    subst (λ (w : Working _). IsAtWork g.G.Game c.args.game.now c.args.wants.now c.args.space.now w) (sym e) work

pub fan_out-requires-clause-others : goal.fan_out-requires-clause-others
fan_out-requires-clause-others g c κs within =
    let test = meets g.G.Game c.args.game.now c.args.walk.kept c.args.wants.now c.args.space.now in
    let list = all_meeting g.G.Game c.args.game.now c.args.walk.kept c.args.wants.now c.args.space.now in
    let count = c.count-count.ensures in
    let new = new_seat test (count_of c.args.space.now) 63 list c.args.seat.view c.requires.view refl in
    let all = subst (λ n. All (λ worker. worker ≡ start_of n (record { board = c.args.board; view = split_off c.args.seat.view }) (fresh_walk c.args.walk.kept)) c.in_ok-crew.crew.items) count.count
    (c.in_ok-crew.ensures.crew c.args.walk.kept c.requires.others) in
    let crew = start_crew g.G.Game c.args.game.now c.args.wants.now c.args.space.now c.args.walk.kept c.args.board c.args.seat.view c.in_ok-crew.crew.items
    c.requires.fits (omega (arith, count.count, count.some_sequence)) (omega (arith, count.count, count.few)) new all in
    let kept = ap (λ (w : Working _). w.walk.kept) c.new_worker-first.ensures in
    subst (λ kept. All (IsInCrew g.G.Game c.args.game.now c.args.wants.now c.args.space.now c.args.board kept) c.in_ok-crew.crew.items) (sym kept) crew

pub returns-clause-first : goal.returns-clause-first
returns-clause-first g c =
    let test = meets g.G.Game c.args.game.now c.args.walk.kept c.args.wants.now c.args.space.now in
    let kept = ap (λ (w : Working _). w.walk.kept) c.new_worker-first.ensures in
    let done = subst (λ kept. HasWorked (meets g.G.Game c.args.game.now kept c.args.wants.now c.args.space.now) c.args.space.now
    (c.new_worker-first.result.seat.view.parts + c.new_worker-first.result.seat.view.spare + length c.in_ok-crew.crew.items) c.in_ok-seat.seat.view c.in_ok-seat.own.tics) kept c.in_ok-seat.ensures.worked in
    let least = c.close.ensures.first ∙ ap (λ n. first_of n c.in_ok-seat.seat.view.meets) done.count_is ∙ ap (first_of (count_of c.args.space.now)) done.meets_are in
    c.found.ensures ∙ ap (λ n. if nat_lt c.close.result n then Some c.close.result else None) c.count-count.ensures.count
    ∙ found_is test (count_of c.args.space.now) c.close.result least

pub returns-clause-cost : goal.returns-clause-cost
returns-clause-cost g c =
    let test = meets g.G.Game c.args.game.now c.args.walk.kept c.args.wants.now c.args.space.now in
    let kept = ap (λ (w : Working _). w.walk.kept) c.new_worker-first.ensures in
    let done = subst (λ kept. HasWorked (meets g.G.Game c.args.game.now kept c.args.wants.now c.args.space.now) c.args.space.now
    (c.new_worker-first.result.seat.view.parts + c.new_worker-first.result.seat.view.spare + length c.in_ok-crew.crew.items) c.in_ok-seat.seat.view c.in_ok-seat.own.tics) kept c.in_ok-seat.ensures.worked in
    let weighed = c.close.ensures.weighed in
    played_cost test c.args.space.now (c.new_worker-first.result.seat.view.parts + c.new_worker-first.result.seat.view.spare + length c.in_ok-crew.crew.items) c.in_ok-seat.seat.view
    c.args.steps.now.tics c.in_ok-seat.own.tics c.add_steps.new.steps.tics weighed.0 done weighed.1 weighed.2 c.add_steps.ensures.tics
