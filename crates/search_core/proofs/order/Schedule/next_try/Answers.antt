use Rattle.search_core.proofs.Steps.{none_covered}
use Rattle.search_core.proofs.Left.{carries_same, carries_on, all_done}
use Rattle.search_core.proofs.order.Schedule.next_try.Goals as goal

pub returns-in-Try-clause-carries : goal.returns-in-Try-clause-carries
returns-in-Try-clause-carries c =
    carries_on c.args.self.now c.loop-self.self c.turn.new.self c.loop-self.invariant (carries_on c.loop-self.self c.skip.new.self c.turn.new.self (carries_same c.loop-self.self c.skip.new.self c.skip.ensures.core c.skip.ensures.taken c.skip.ensures.turns) c.turn.ensures.carries)

pub loop-self-preserved : goal.loop-self-preserved
loop-self-preserved c =
    carries_on c.args.self.now c.loop-self.self c.turn.new.self c.loop-self.invariant (carries_on c.loop-self.self c.skip.new.self c.turn.new.self (carries_same c.loop-self.self c.skip.new.self c.skip.ensures.core c.skip.ensures.taken c.skip.ensures.turns) c.turn.ensures.carries)

pub returns-clause-carries : goal.returns-clause-carries
returns-clause-carries c = carries_on c.args.self.now c.loop-self.self c.skip.new.self c.loop-self.invariant (carries_same c.loop-self.self c.skip.new.self c.skip.ensures.core c.skip.ensures.taken c.skip.ensures.turns)

pub returns-clause-done : goal.returns-clause-done
returns-clause-done c none meets all h =
    all_done c.skip.new.self meets all c.skip.ensures.sound (c.skip.ensures.none c.loop-self-test.false) (c.skip.ensures.ended c.loop-self-test.false _) h

pub returns-clause-none_left : goal.returns-clause-none_left
returns-clause-none_left c none left = none_covered c.skip.new.self.core left c.skip.ensures.sound (c.skip.ensures.none c.loop-self-test.false)
