-- A demo of a version holds all tics of a session, where it holds those of the tape and of the script.
use Rattle.std.proofs.Common.{◌≡◌, ℕ, Bool, true, false, List, [], ◌∷◌, if◌then◌else◌, refl, ap, subst, fold, Option, Some, None, Result, Ok, Err}
use Rattle.std.proofs.lemmas.List.Elements.{All-head, All-tail}
use Rattle.lmp_codec.specs.Tics.{HoldsTurn, HoldsTurns}
use Rattle.brute_ranges.specs.Space.{Ranges, sequence_at}
use Rattle.brute_ranges.proofs.Turns.{sequence_holds}
use Rattle.brute_targets.specs.declared.want.Want.{Want}
use Rattle.build_script.specs.Commands.{HoldsTicOf}
use Rattle.build_script.specs.Script.{HoldsTics}
use Rattle.build_script.specs.declared.commands.Command.{Command}
use Rattle.build_script.specs.declared.commands.Command.TheVariants as script
use Rattle.build_script.specs.declared.commands.Entry.{Entry}
use Rattle.build_edits.specs.Parts.{Parts, all_tics}
use Rattle.build_edits.specs.Edits.{Outcome, seek_outcome, put_outcome, insert_outcome, delete_outcome, cut_outcome, repeat_outcome}
use Rattle.build_edits.proofs.Held.{seek_holds, put_holds, insert_holds, delete_holds, cut_holds, repeat_holds, accepted_holds}
use Rattle.build_edits.specs.declared.fault.EditFault.{EditFault}
use Rattle.build_edits.specs.declared.fault.EditFault.TheVariants.{TooLong}
use Rattle.build_session.specs.Session.{Play, State, told, on_tape, accepted, answered, first_of_search, carried, at_line, next_carried, all_carried}

-- the tape of a session holds such turns
abbrev Holds : Bool → State → Type 0
Holds long state = HoldsTurns long (all_tics state.tape)

taped : (long : Bool) (state new : State) (outcome : Outcome) → ((parts : Parts) → outcome ≡ Ok parts → HoldsTurns long (all_tics parts)) → on_tape state outcome ≡ Ok new → Holds long new
taped long state new (Ok parts) held is =
    let same : record state { tape = parts } ≡ new = cc in subst (Holds long) same (held parts refl)
taped long state new (Err fault) held is = absurd cc

-- what a command that isn't refused comes to
abbrev done : State → Result State EditFault
done state = Ok state

same_state : (long : Bool) (state new : State) → done state ≡ done new → Holds long state → Holds long new
same_state long state new is held = let same : state ≡ new = cc in subst (Holds long) same held

accepted_turns : (long : Bool) (ranges : Ranges) (first : Option ℕ) (tape : Parts) → ranges.long ≡ long → HoldsTurns long (all_tics tape) → HoldsTurns long (all_tics (accepted ranges first tape))
accepted_turns long ranges None tape is held = held
accepted_turns long ranges (Some number) tape is held =
    accepted_holds (HoldsTurn long) (sequence_at ranges number) tape (subst (λ long. HoldsTurns long (sequence_at ranges number)) is (sequence_holds ranges number)) held

told_turns : (long : Bool) (state new : State) (lines : List ℕ) → done (told state lines) ≡ done new → Holds long state → Holds long new
told_turns long state new lines is held = same_state long (told state lines) new is held

unless_long : {G W : Type 0} (play : Play G W) (game : G) (long : Bool) (ranges : Ranges) (wants : List Want) (state new : State) (test : Bool) → ranges.long ≡ long
    → (if test then Err TooLong else Ok (answered play game ranges wants state (first_of_search play game ranges wants state))) ≡ Ok new → Holds long state → Holds long new
unless_long play game long ranges wants state new true is done held = absurd cc
unless_long play game long ranges wants state new false is done held =
    same_state long (answered play game ranges wants state (first_of_search play game ranges wants state)) new done
    (accepted_turns long ranges (first_of_search play game ranges wants state) state.tape is held)

carried_holds : {G W : Type 0} (play : Play G W) (game : G) (long : Bool) (command : Command) (state new : State) → carried play game command state ≡ Ok new → HoldsTicOf long command → Holds long state → Holds long new
carried_holds play game long (script.Seek place) state new is tic held = taped long state new (seek_outcome place state.tape) (λ parts done. seek_holds (HoldsTurn long) place state.tape parts done held) is
carried_holds play game long (script.Put put) state new is tic held = taped long state new (put_outcome put state.tape) (λ parts done. put_holds (HoldsTurn long) put state.tape parts done tic held) is
carried_holds play game long (script.Insert put) state new is tic held = taped long state new (insert_outcome put state.tape) (λ parts done. insert_holds (HoldsTurn long) put state.tape parts done tic held) is
carried_holds play game long script.Delete state new is tic held = taped long state new (delete_outcome state.tape) (λ parts done. delete_holds (HoldsTurn long) state.tape parts done held) is
carried_holds play game long script.Cut state new is tic held = taped long state new (cut_outcome state.tape) (λ parts done. cut_holds (HoldsTurn long) state.tape parts done held) is
carried_holds play game long (script.Repeat count) state new is tic held = taped long state new (repeat_outcome count state.tape) (λ parts done. repeat_holds (HoldsTurn long) count state.tape parts done held) is
carried_holds play game long script.Show state new is tic held = told_turns long state new _ is held
carried_holds play game long (script.ShowSector sector) state new is tic held = told_turns long state new _ is held
carried_holds play game long script.ShowKeys state new is tic held = told_turns long state new _ is held
carried_holds play game long script.ShowHealth state new is tic held = told_turns long state new _ is held
carried_holds play game long (script.Want want) state new is tic held = same_state long state new is held
carried_holds play game long (script.Go ranges wants) state new is tic held = unless_long play game long ranges wants state new _ tic is held

line_done : {A : Type 0} (line : ℕ) (result : Result A EditFault) (new : A) → at_line line result ≡ Ok new → result ≡ Ok new
line_done line (Ok done) new is = let same : done ≡ new = cc in ap Ok same
line_done line (Err fault) new is = absurd cc

next_holds : {G W : Type 0} (play : Play G W) (game : G) (long : Bool) (entry : Entry) (so_far : Result State (ℕ × EditFault)) → HoldsTicOf long entry.command
    → ((state : State) → so_far ≡ Ok state → Holds long state) → (new : State) → next_carried play game so_far entry ≡ Ok new → Holds long new
next_holds play game long entry (Ok state) tic held new is =
    carried_holds play game long entry.command state new (line_done entry.line (carried play game entry.command state) new is) tic (held state refl)
next_holds play game long entry (Err fault) tic held new is = absurd cc

-- the commands of a script, from a session or from a refusal
fold_holds : {G W : Type 0} (play : Play G W) (game : G) (long : Bool) (entries : List Entry) (so_far : Result State (ℕ × EditFault)) (new : State)
    → fold (next_carried play game) so_far entries ≡ Ok new → HoldsTics long entries → ((state : State) → so_far ≡ Ok state → Holds long state) → Holds long new
fold_holds play game long [] so_far new is tics held = held new is
fold_holds play game long (entry ∷ entries) so_far new is tics held =
    fold_holds play game long entries (next_carried play game so_far entry) new is (All-tail (λ entry. HoldsTicOf long entry.command) entry entries tics)
    (next_holds play game long entry so_far (All-head (λ entry. HoldsTicOf long entry.command) entry entries tics) held)

-- A demo of this version holds all tics that a script leaves.
pub script_holds : {G W : Type 0} (play : Play G W) (game : G) (long : Bool) (entries : List Entry) (state new : State)
    → all_carried play game entries state ≡ Ok new → HoldsTics long entries → HoldsTurns long (all_tics state.tape) → HoldsTurns long (all_tics new.tape)
script_holds play game long entries state new is tics held =
    fold_holds play game long entries (Ok state) new is tics (λ other same. let one : state ≡ other = cc in subst (Holds long) one held)
