use Rattle.std.proofs.Common.{refl, ◌≡◌, length, ap, ◌∙◌, arith}
use Rattle.std.proofs.lemmas.List.{length_push}
use Rattle.claim_board.specs.declared.view.View.{View}
use Rattle.claim_board.specs.Seated.{Seated}
use Rattle.claim_board.specs.Views.{split_off}
use Rattle.brute_run.specs.Walks.{Walked, fresh_walk}
use Rattle.brute_run.specs.Working.{Working, start_of}
use Rattle.brute_run.proofs.Gathering.{all_front, all_last, all_push, split_view, split_new}
use Rattle.brute_run.proofs.crew.crew_of.Goals as goal

pub seating-init : goal.seating-init
seating-init g c =
    let none : length c.new-crew.result.items ≡ 0 = ap length c.new-crew.ensures.items in
    record {
      seat = c.requires.seat;
      view = refl;
      whole = omega (arith, none);
      left = omega (arith, none);
      walks = λ w all. all;
      crew = λ w all k d within. absurd (omega (arith, none));
    }

pub seating-preserved : goal.seating-preserved
seating-preserved g c =
    let kept = c.seating.invariant in
    let popped = c.in-Some.ensures.items in
    let pushed = c.in_ok-push.ensures.items in
    let view = ap (λ (s : Seated). s.view) c.split.ensures.old in
    let made = split_new c.args.seat.now.view c.seating.seat c.split.result c.args.board.now kept.seat kept.view c.split.ensures.new in
    record {
      seat = ap (λ (s : Seated). s.board) c.split.ensures.old ∙ kept.seat;
      view = split_view c.args.seat.now.view c.seating.seat.view c.split.new.seat.view kept.view view;
      whole = omega (arith, kept.whole, ap (λ (v : View). v.spare) view, c.requires.spare, kept.left, ap length popped, length_push c.pop.new.self.items c.in-Some.walk, ap length pushed, length_push c.seating.crew.items c.new_worker.result);
      left = omega (arith, kept.left, ap length popped, ap length pushed, length_push c.pop.new.self.items c.in-Some.walk, length_push c.seating.crew.items c.new_worker.result);
      walks = λ w all. all_front (λ (walk : Walked _). walk ≡ fresh_walk w) c.seating.walks.items c.pop.new.self.items c.in-Some.walk popped (kept.walks w all);
      crew = λ w all. all_push (λ (worker : Working _). worker ≡ start_of c.args.count (record { board = c.args.board.now; view = split_off c.args.seat.now.view }) (fresh_walk w))
          c.seating.crew.items c.push.new.self.items c.new_worker.result pushed (kept.crew w all)
          (c.new_worker.ensures ∙ ap (λ (s : Seated). start_of c.args.count s c.in-Some.walk) made
          ∙ ap (start_of c.args.count (record { board = c.args.board.now; view = split_off c.args.seat.now.view }))
          (all_last (λ (walk : Walked _). walk ≡ fresh_walk w) c.seating.walks.items c.pop.new.self.items c.in-Some.walk popped (kept.walks w all)));
    }
