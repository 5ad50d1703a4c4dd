use Rattle.std.proofs.Common.{rules, ◌≡◌, ◌+◌, length, ap, ◌∙◌, subst, arith}
use Rattle.std.specs.Prelude.{All}
use Rattle.std.proofs.lemmas.List.{length_push}
use Rattle.claim_board.specs.Seated.{Seated}
use Rattle.brute_run.specs.Search.{meets}
use Rattle.brute_run.specs.Working.{IsInCrew, HasWorked}
use Rattle.brute_run.proofs.Gathering.{if_ok, both_ok, all_front, all_last, gathered}
use Rattle.brute_run.proofs.crew.+fan_out+fn-fan_out-join+arg2.Goals as goal

pub join-mine-requires-after_bounds : goal.join-mine-requires-after_bounds
join-mine-requires-after_bounds g t c κs within =
    let P = IsInCrew g.G.Game c.args.game.now c.args.wants.now c.args.space.now c.args.board.now c.args.first.walk.kept in
    let popped = c.in-Some.ensures.items in
    let fewer : length c.args.others.items ≡ length c.pop.new.self.items + 1 = ap length popped ∙ length_push c.pop.new.self.items c.in-Some.other in
    let others : All P c.pop.new.self.items = all_front P c.args.others.items c.pop.new.self.items c.in-Some.other popped c.requires.others in
    let other : P c.in-Some.other = all_last P c.args.others.items c.pop.new.self.items c.in-Some.other popped c.requires.others in
    search rules

pub join+arg2-returns : goal.join+arg2-returns
join+arg2-returns g t c = both_ok c.fan_out.result _ _ c.fan_out.ensures.seat c.fan_out.ensures.worked

pub returns-clause-worked : goal.returns-clause-worked
returns-clause-worked g t c =
    let P = IsInCrew g.G.Game c.args.game.now c.args.wants.now c.args.space.now c.args.board.now c.args.first.walk.kept in
    let popped = c.in-Some.ensures.items in
    let fewer : length c.args.others.items ≡ length c.pop.new.self.items + 1 = ap length popped ∙ length_push c.pop.new.self.items c.in-Some.other in
    let other : P c.in-Some.other = all_last P c.args.others.items c.pop.new.self.items c.in-Some.other popped c.requires.others in
    let mine = if_ok c.join-mine.result.0 _ _ c.in_ok-seat.was c.join-mine.ensures.first in
    let theirs = if_ok c.join-mine.result.1 _ _ c.in_ok-other_seat.was c.join-mine.ensures.second in
    let same = subst (λ kept. HasWorked (meets g.G.Game c.args.game.now kept c.args.wants.now c.args.space.now) c.args.space.now (c.in-Some.other.seat.view.parts + c.in-Some.other.seat.view.spare) c.in_ok-other_seat.other_seat.view c.in_ok-other_seat.other_steps.tics) other.kept_is theirs.1 in
    gathered (meets g.G.Game c.args.game.now c.args.first.walk.kept c.args.wants.now c.args.space.now) c.args.space.now
    (c.args.first.seat.view.parts + c.args.first.seat.view.spare + length c.pop.new.self.items) (c.in-Some.other.seat.view.parts + c.in-Some.other.seat.view.spare)
    (c.args.first.seat.view.parts + c.args.first.seat.view.spare + length c.args.others.items)
    c.in_ok-seat.seat.view c.in_ok-other_seat.other_seat.view c.join.new.seat.view c.in_ok-seat.steps.tics c.in_ok-other_seat.other_steps.tics c.add.new.self.tics
    mine.1 same (ap (λ (s : Seated). s.view) c.join.ensures) c.add.ensures.tics (omega (arith, fewer, other.part))
