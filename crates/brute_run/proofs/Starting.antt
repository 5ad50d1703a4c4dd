-- Workers that have done nothing.
use Rattle.std.proofs.Common.{◌≡◌, ℕ, ◌^◌, ◌<◌, ◌≤◌, inl, Bool, List, refl, sym, arith}
use Rattle.std.specs.Prelude.{All}
use Rattle.std.proofs.lemmas.List.Elements.{All-weaker}
use Rattle.game_trait.specs.declared.game.Game.{Ghosts}
use Rattle.brute_ranges.specs.Space.{Ranges}
use Rattle.brute_targets.specs.declared.want.Want.{Want}
use Rattle.atomic_table.specs.Seated.{TableId}
use Rattle.claim_board.specs.declared.view.View.{View}
use Rattle.claim_board.specs.Seated.{Seated}
use Rattle.claim_board.specs.Views.{opening, split_off}
use Rattle.brute_run.specs.Search.{count_of, meets}
use Rattle.brute_run.specs.Walks.{fresh_walk, Belongs}
use Rattle.brute_run.specs.Costs.{block_size}
use Rattle.brute_run.specs.Working.{Working, passing, start_of, IsNewSeat, IsAtWork, IsInCrew}
use Rattle.brute_run.proofs.Passing.{first_passing-within}

pub fresh_belongs : {G W : Type 0} (rules : Ghosts G W) (game : G) (wants : List Want) (ranges : Ranges) (kept : W) → rules.fits game kept → 0 < count_of ranges
    → Belongs rules game wants ranges (fresh_walk kept)
fresh_belongs rules game wants ranges kept fits some_number = record {
  fitting = fits;
  last = some_number;
  along = record { within = omega arith; paired = refl; each = λ k below. absurd (omega arith) };
}

pub new_seat : (test : ℕ → Bool) (count spare : ℕ) (meets_list : List ℕ) (view : View) → view ≡ record (opening count block_size meets_list) { spare = spare } → meets_list ≡ passing test count → IsNewSeat test count view
new_seat test count spare meets_list view is list = rw is (record { count_is = refl; block_is = refl; meets_are = list; no_block = refl; no_claim = refl; seen = refl })

pub new_split : (test : ℕ → Bool) (count : ℕ) (view : View) → IsNewSeat test count view → IsNewSeat test count (split_off view)
new_split test count view is = record { count_is = is.count_is; block_is = is.block_is; meets_are = is.meets_are; no_block = refl; no_claim = refl; seen = is.seen }

pub start_work : {G W : Type 0} (rules : Ghosts G W) (game : G) (wants : List Want) (ranges : Ranges) (kept : W) (seat : Seated) → rules.fits game kept → 0 < count_of ranges → count_of ranges ≤ 2 ^ 40
    → IsNewSeat (meets rules game kept wants ranges) (count_of ranges) seat.view → IsAtWork rules game wants ranges (start_of (count_of ranges) seat (fresh_walk kept))
start_work rules game wants ranges kept seat fits some_number few new =
    let test : ℕ → Bool = meets rules game kept wants ranges in
    record {
      walking = record { belongs = fresh_belongs rules game wants ranges kept fits some_number; full = inl refl; tried = tt };
      seated = record {
        hand_for = record { count_is = refl; block_is = refl; sound = record { count = few; positive = omega arith; block = omega arith; seen = omega arith; phase = tt } };
        count_is = new.count_is;
        block_is = new.block_is;
        meets_are = new.meets_are;
        seen = sym new.seen;
        last = sym new.no_claim;
        leaves = λ n marked inside below. absurd (omega (arith, inside));
        posts = tt;
        first = first_passing-within test (count_of ranges);
      };
      paid = record { most = omega arith; least = rw new.no_block (omega arith) };
    }

pub start_crew : {G W : Type 0} (rules : Ghosts G W) (game : G) (wants : List Want) (ranges : Ranges) (kept : W) (board : TableId) (view : View) (crew : List (Working W)) → rules.fits game kept
    → 0 < count_of ranges → count_of ranges ≤ 2 ^ 40 → IsNewSeat (meets rules game kept wants ranges) (count_of ranges) view
    → All (λ worker. worker ≡ start_of (count_of ranges) (record { board = board; view = split_off view }) (fresh_walk kept)) crew
    → All (IsInCrew rules game wants ranges board kept) crew
start_crew {W = W} rules game wants ranges kept board view crew fits some_number few new all =
    let seat : Seated = record { board = board; view = split_off view } in
    All-weaker (λ (worker : Working W). worker ≡ start_of (count_of ranges) seat (fresh_walk kept)) (IsInCrew rules game wants ranges board kept)
    (λ worker is. rw is (record {
      seat = refl;
      work = start_work rules game wants ranges kept seat fits some_number few (new_split (meets rules game kept wants ranges) (count_of ranges) view new);
      kept_is = refl;
      part = refl;
    })) crew all
