use Rattle.std.proofs.Common.{◌≡◌}
use Rattle.claim_board.specs.Seated.{IsSeatOf}
use Rattle.brute_run.specs.Working.{IsAtWork, turns_left}
use Rattle.brute_run.proofs.worker.Worker.work.Given as goal

-- the worker is at its work still
abbrev pub invariant-working : goal.invariant-working
invariant-working g l = record {
  seat : IsSeatOf l.board l.self.seat;
  work : IsAtWork g.G.Game l.game l.wants l.space l.self;
  kept : l.self.walk.kept ≡ l.fn.self.walk.kept;
  parts : l.self.seat.view.parts ≡ l.fn.self.seat.view.parts;
  spare : l.self.seat.view.spare ≡ l.fn.self.seat.view.spare;
}

abbrev pub decreases-working : goal.decreases-working
decreases-working g l = turns_left l.self.hand
