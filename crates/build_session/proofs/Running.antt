-- A script's commands, one after the other.
use Rattle.std.proofs.Common.{◌≡◌, ℕ, ◌+◌, ◌<◌, List, [], ◌∷◌, length, take, drop, fold, slice_get, get_or, refl, ap, sym, ◌∙◌, Some, Result, Ok, Err}
use Rattle.std.proofs.lemmas.List.Sums.{fold_more, fold-append}
use Rattle.std.proofs.lemmas.List.{take-append-drop}
use Rattle.std.proofs.lemmas.Option.{slice_get-get_or}
use Rattle.build_script.specs.declared.commands.Entry.{Entry}
use Rattle.build_edits.specs.declared.fault.EditFault.{EditFault}
use Rattle.build_edits.specs.declared.fault.EditFault.TheVariants.{Place, Before, TooLong, Memory}
use Rattle.build_session.specs.declared.fault.SessionFault.{SessionFault}
use Rattle.build_session.specs.declared.fault.SessionFault.TheVariants as session_fault
use Rattle.build_session.specs.Session.{Play, State, carried, at_line, next_carried, all_carried}
use Rattle.build_session.specs.Costs.{Spent, spent, Run, run_at, spent_after, with_spent, next_run, all_run, unspent, state_of_run}
use Rattle.build_session.specs.Seen.{Seen}
use Rattle.build_session.specs.Runs.{state_in, Spends, Does, CarriesOut, Ends, StopsAt, Stands, refused_at}
use Rattle.doom_edge.proofs.Costs.{rises_free, rises_both}

module _ {G W : Type 0} (play : Play G W) (game : G) where
  -- ---- what it costs makes no difference to what it does

  state_of_line : (line : ℕ) (first more : Spent) (done : Result State EditFault) → state_of_run (at_line line (with_spent first more done)) ≡ at_line line done
  state_of_line line first more (Ok state) = refl
  state_of_line line first more (Err fault) = refl

  state_of_next : (run : Result Run (ℕ × EditFault)) (entry : Entry) → state_of_run (next_run play game run entry) ≡ next_carried play game (state_of_run run) entry
  state_of_next (Ok run) entry = state_of_line entry.line run.spent (spent play game entry.command run.state run.spent.reach) (carried play game entry.command run.state)
  state_of_next (Err fault) entry = refl

  costs_change_nothing : (entries : List Entry) (run : Result Run (ℕ × EditFault)) → state_of_run (fold (next_run play game) run entries) ≡ fold (next_carried play game) (state_of_run run) entries
  costs_change_nothing [] run = refl
  costs_change_nothing (entry ∷ rest) run =
      costs_change_nothing rest (next_run play game run entry) ∙ ap (λ state. fold (next_carried play game) state rest) (state_of_next run entry)

  pub ends : (entries : List Entry) (old new : Seen G) (result : Result (Unit {0}) SessionFault) (before after : ℕ)
      → CarriesOut result (all_run play game entries (unspent (state_in old) old.build.reach)) old new before after → Ends result (all_carried play game entries (state_in old)) new
  ends entries old new (Ok done) before after (run, is, state, spends) =
      sym (costs_change_nothing entries (Ok (unspent (state_in old) old.build.reach))) ∙ ap state_of_run is ∙ ap Ok state
  ends entries old new (Err (session_fault.Edit line fault)) before after is =
      sym (costs_change_nothing entries (Ok (unspent (state_in old) old.build.reach))) ∙ ap state_of_run is
  ends entries old new (Err session_fault.Memory) before after is = tt

  -- ---- one command more

  -- the first commands have come to this
  pub record Came (entries : List Entry) (start now : Seen G) (before after : ℕ) : Type 0 where
    pub run : Run
    pub is : all_run play game entries (unspent (state_in start) start.build.reach) ≡ Ok run
    pub state : run.state ≡ state_in now
    pub spends : Spends run.spent start now before after

  pub came_start : (start : Seen G) (count : ℕ) → Came [] start start count count
  came_start start count = record {
    run = unspent (state_in start) start.build.reach;
    is = refl;
    state = refl;
    spends = record { game = refl; reach = refl; rises = rises_free count count refl };
  }

  -- what the next one comes to
  next_is : (run : Run) (now : Seen G) (entry : Entry) (done : Result State EditFault) → run.state ≡ state_in now → now.build.reach ≡ run.spent.reach
      → carried play game entry.command (state_in now) ≡ done
      → next_run play game (Ok run) entry ≡ at_line entry.line (with_spent run.spent (spent play game entry.command (state_in now) now.build.reach) done)
  next_is run now entry done state reach is =
      (λ k. at_line entry.line (with_spent run.spent (spent play game entry.command (state k) (sym reach k)) (carried play game entry.command (state k))))
      ∙ ap (λ (d : Result State EditFault). at_line entry.line (with_spent run.spent (spent play game entry.command (state_in now) now.build.reach) d)) is

  pub came_next : (entries : List Entry) (place : ℕ) (d : Entry) (start now next : Seen G) (before mid after : ℕ) → place < length entries
      → Came (take place entries) start now before mid
      → Does (Ok tt) (carried play game (get_or entries place d).command (state_in now)) (spent play game (get_or entries place d).command (state_in now) now.build.reach) now next mid after
      → Came (take (place + 1) entries) start next before after
  came_next entries place d start now next before mid after inside came does =
      let entry = get_or entries place d in
      let more = spent play game entry.command (state_in now) now.build.reach in
      record {
        run = run_at (state_in next) (spent_after came.run.spent more);
        is = fold_more (next_run play game) (Ok (unspent (state_in start) start.build.reach)) entries place d inside
            ∙ ap (λ r. next_run play game r entry) came.is
            ∙ next_is came.run now entry (Ok (state_in next)) came.state came.spends.reach does.0;
        state = refl;
        spends = record {
          game = does.1.game ∙ came.spends.game;
          reach = does.1.reach;
          rises = rises_both came.run.spent.cost more.cost before mid after came.spends.rises does.1.rises;
        };
      }

  -- none is carried out after one that is refused
  all_refused : (entries : List Entry) (fault : ℕ × EditFault) → fold (next_run play game) (Err fault) entries ≡ Err fault
  all_refused [] fault = refl
  all_refused (entry ∷ rest) fault = all_refused rest fault

  stopped_at : (entries : List Entry) (place : ℕ) (d : Entry) (start now : Seen G) (before mid : ℕ) (fault : EditFault) → place < length entries
      → Came (take place entries) start now before mid → carried play game (get_or entries place d).command (state_in now) ≡ Err fault
      → all_run play game entries (unspent (state_in start) start.build.reach) ≡ Err ((get_or entries place d).line, fault)
  stopped_at entries place d start now before mid fault inside came is =
      let entry = get_or entries place d in
      let begun = unspent (state_in start) start.build.reach in
      ap (λ all. all_run play game all begun) (sym (take-append-drop (place + 1) entries))
      ∙ fold-append (next_run play game) (Ok begun) (take (place + 1) entries) (drop (place + 1) entries)
      ∙ ap (λ r. fold (next_run play game) r (drop (place + 1) entries))
      (fold_more (next_run play game) (Ok begun) entries place d inside ∙ ap (λ r. next_run play game r entry) came.is ∙ next_is came.run now entry (Err fault) came.state came.spends.reach is)
      ∙ all_refused (drop (place + 1) entries) (entry.line, fault)

  pub came_stop : (entries : List Entry) (place : ℕ) (d : Entry) (start now next : Seen G) (before mid after : ℕ) (fault : EditFault) → place < length entries
      → Came (take place entries) start now before mid
      → Does (Err fault) (carried play game (get_or entries place d).command (state_in now)) (spent play game (get_or entries place d).command (state_in now) now.build.reach) now next mid after
      → CarriesOut (Err (refused_at (get_or entries place d).line fault)) (all_run play game entries (unspent (state_in start) start.build.reach)) start next before after
  came_stop entries place d start now next before mid after Memory inside came is = tt
  came_stop entries place d start now next before mid after (Place n) inside came is = stopped_at entries place d start now before mid (Place n) inside came is.0
  came_stop entries place d start now next before mid after Before inside came is = stopped_at entries place d start now before mid Before inside came is.0
  came_stop entries place d start now next before mid after TooLong inside came is = stopped_at entries place d start now before mid TooLong inside came is.0

  -- the session in which a command is refused is what those before it have made
  stops_at : (entries : List Entry) (place : ℕ) (d : Entry) (start now next : Seen G) (before mid : ℕ) (fault : EditFault) → place < length entries
      → Came (take place entries) start now before mid → carried play game (get_or entries place d).command (state_in now) ≡ Err fault → next ≡ now
      → StopsAt play game entries (state_in start) (state_in next) (get_or entries place d).line fault × (next.build.game ≡ start.build.game)
  stops_at entries place d start now next before mid fault inside came is same =
      let stood : all_carried play game (take place entries) (state_in start) ≡ Ok (state_in now) =
      sym (costs_change_nothing (take place entries) (Ok (unspent (state_in start) start.build.reach))) ∙ ap state_of_run came.is ∙ ap Ok came.state in
      let there : slice_get entries place ≡ Some (get_or entries place d) = slice_get-get_or entries place d inside in
      rw same (
        record { done = place; before = stood; refused = rw there (refl, is) },
        came.spends.game,
      )

  pub stands : (entries : List Entry) (place : ℕ) (d : Entry) (start now next : Seen G) (before mid after : ℕ) (fault : EditFault) → place < length entries
      → Came (take place entries) start now before mid
      → Does (Err fault) (carried play game (get_or entries place d).command (state_in now)) (spent play game (get_or entries place d).command (state_in now) now.build.reach) now next mid after
      → Stands (Err (refused_at (get_or entries place d).line fault)) play game entries start next
  stands entries place d start now next before mid after Memory inside came is = tt
  stands entries place d start now next before mid after (Place n) inside came is = stops_at entries place d start now next before mid (Place n) inside came is.0 is.1
  stands entries place d start now next before mid after Before inside came is = stops_at entries place d start now next before mid Before inside came is.0 is.1
  stands entries place d start now next before mid after TooLong inside came is = stops_at entries place d start now next before mid TooLong inside came is.0 is.1
