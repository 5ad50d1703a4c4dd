use Rattle.std.proofs.Common.{◌≡◌, ◌+◌, length}
use Rattle.std.specs.Prelude.{All}
use Rattle.claim_board.specs.Seated.{IsSeatOf}
use Rattle.claim_board.specs.Views.{split_off}
use Rattle.brute_run.specs.Walks.{fresh_walk}
use Rattle.brute_run.specs.Working.{start_of}
use Rattle.brute_run.proofs.crew.crew_of.Given as goal

-- those that are seated, and those that are not yet
abbrev pub invariant-seating : goal.invariant-seating
invariant-seating g l = record {
  seat : IsSeatOf l.board l.seat;
  view : l.seat.view ≡ record l.fn.seat.view { spare = l.seat.view.spare };
  whole : l.seat.view.spare + length l.crew.items ≡ l.fn.seat.view.spare;
  left : length l.crew.items + length l.walks.items ≡ length l.fn.walks.items;
  walks : (kept : g.row.G-World.Denot) → All (λ walk. walk ≡ fresh_walk kept) l.fn.walks.items → All (λ walk. walk ≡ fresh_walk kept) l.walks.items;
  crew : (kept : g.row.G-World.Denot) → All (λ walk. walk ≡ fresh_walk kept) l.fn.walks.items
      → All (λ worker. worker ≡ start_of l.count (record { board = l.board; view = split_off l.fn.seat.view }) (fresh_walk kept)) l.crew.items;
}

abbrev pub decreases-seating : goal.decreases-seating
decreases-seating g l = length l.walks.items
