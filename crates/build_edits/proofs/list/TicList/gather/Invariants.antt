use Rattle.std.proofs.Common.{◌≡◌, ◌-◌}
use Rattle.build_edits.proofs.list.TicList.gather.Given as goal

-- the tics stay
abbrev pub invariant-gathering : goal.invariant-gathering
invariant-gathering l = l.self.tics ≡ l.fn.self.tics

abbrev pub decreases-gathering : goal.decreases-gathering
decreases-gathering l = l.place - l.self.front
