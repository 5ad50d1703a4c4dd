-- The commands of a script, one after the other.
use Rattle.std.proofs.Common.{◌≡◌, ◌<◌, ◌+◌, ℕ, Bool, List, [], ◌∷◌, length, take, drop, fold, get_or, refl, ap, sym, subst, ◌∙◌, Result, Ok, Err}
use Rattle.std.proofs.lemmas.List.Sums.{fold_more, fold-append}
use Rattle.std.proofs.lemmas.List.{take-append-drop}
use Rattle.build_script.specs.declared.commands.Entry.{Entry}
use Rattle.build_edits.specs.Parts.{Parts, all_tics}
use Rattle.build_edits.specs.Edits.{MayEdit}
use Rattle.build_edits.specs.declared.fault.EditFault.{EditFault}
use Rattle.build_edits.specs.declared.fault.EditFault.TheVariants.{Place, Before, TooLong, Memory}
use Rattle.build_edits.proofs.Held.{seek_holds, put_holds, insert_holds, delete_holds, cut_holds, repeat_holds}
use Rattle.build_script.specs.Commands.{HoldsTicOf}
use Rattle.build_script.specs.declared.commands.Command.{Command as Edit}
use Rattle.build_script.specs.declared.commands.Command.TheVariants as script
use Rattle.lmp_codec.specs.Tics.{HoldsTurn, HoldsTurns}
use Rattle.dsda_cli.specs.Judging.{exactly}
use Rattle.dsda_cli.specs.Meaning.{edited_by, at_line, next_edit, edits_of}
use Rattle.dsda_cli.specs.Inside.{Gives, stop_of_edit}
use Rattle.dsda_cli.specs.declared.fault.InputFault.{InputFault}
use Rattle.dsda_cli.specs.declared.fault.InputFault.TheVariants as input_fault

-- one command more
edits_more : (entries : List Entry) (place : ℕ) (start now : Parts) (d : Entry) → place < length entries → edits_of (take place entries) start ≡ Ok now → edits_of (take (place + 1) entries) start ≡ at_line (get_or entries place d).line (edited_by (get_or entries place d).command now)
edits_more entries place start now d inside so_far =
    fold_more next_edit (Ok start) entries place d inside ∙ ap (λ read. next_edit read (get_or entries place d)) so_far

pub edits_ok : (entries : List Entry) (place : ℕ) (start now next : Parts) (d : Entry) → place < length entries → edits_of (take place entries) start ≡ Ok now → edited_by (get_or entries place d).command now ≡ Ok next → edits_of (take (place + 1) entries) start ≡ Ok next
edits_ok entries place start now next d inside so_far is =
    edits_more entries place start now d inside so_far ∙ ap (at_line (get_or entries place d).line) is

-- no command is carried out after one that is refused
edits_refused : (entries : List Entry) (fault : InputFault) → fold next_edit (Err fault) entries ≡ Err fault
edits_refused [] fault = refl
edits_refused (entry ∷ entries) fault = edits_refused entries fault

edits_err : (entries : List Entry) (place : ℕ) (start now : Parts) (d : Entry) (fault : EditFault) → place < length entries → edits_of (take place entries) start ≡ Ok now → edited_by (get_or entries place d).command now ≡ Err fault → edits_of entries start ≡ Err (input_fault.Edit (get_or entries place d).line fault)
edits_err entries place start now d fault inside so_far is =
    ap (λ all. edits_of all start) (sym (take-append-drop (place + 1) entries))
    ∙ fold-append next_edit (Ok start) (take (place + 1) entries) (drop (place + 1) entries)
    ∙ ap (λ read. fold next_edit read (drop (place + 1) entries)) (edits_more entries place start now d inside so_far ∙ ap (at_line (get_or entries place d).line) is)
    ∙ edits_refused (drop (place + 1) entries) (input_fault.Edit (get_or entries place d).line fault)

-- the refusal of a command is that of the script
pub edits_stop : (entries : List Entry) (place : ℕ) (start now next : Parts) (d : Entry) (fault : EditFault) → place < length entries → edits_of (take place entries) start ≡ Ok now → MayEdit {D = Unit {0}} (Err fault) now next (edited_by (get_or entries place d).command now) → Gives (λ parts. parts) (Err (stop_of_edit (get_or entries place d).line fault)) (exactly (edits_of entries start))
edits_stop entries place start now next d (Place count) inside so_far refused = record { right = edits_err entries place start now d (Place count) inside so_far refused.0 }
edits_stop entries place start now next d Before inside so_far refused = record { right = edits_err entries place start now d Before inside so_far refused.0 }
edits_stop entries place start now next d TooLong inside so_far refused = record { right = edits_err entries place start now d TooLong inside so_far refused.0 }
edits_stop entries place start now next d Memory inside so_far refused = record { right = tt }

-- ---- an edit adds no tic but the command's

-- what a command that isn't refused comes to
abbrev unrefused : Parts → Result Parts EditFault
unrefused parts = Ok parts

-- a word of a session with worlds leaves the tape
same_tape : (long : Bool) (parts new : Parts) → unrefused parts ≡ unrefused new → HoldsTurns long (all_tics parts) → HoldsTurns long (all_tics new)
same_tape long parts new is all = let same : parts ≡ new = cc in subst (λ (p : Parts). HoldsTurns long (all_tics p)) same all

pub edited_holds : (long : Bool) (edit : Edit) (parts new : Parts) → edited_by edit parts ≡ Ok new → HoldsTicOf long edit → HoldsTurns long (all_tics parts) → HoldsTurns long (all_tics new)
edited_holds long (script.Seek place) parts new is tic all = seek_holds (HoldsTurn long) place parts new is all
edited_holds long (script.Put put) parts new is tic all = put_holds (HoldsTurn long) put parts new is tic all
edited_holds long (script.Insert put) parts new is tic all = insert_holds (HoldsTurn long) put parts new is tic all
edited_holds long script.Delete parts new is tic all = delete_holds (HoldsTurn long) parts new is all
edited_holds long script.Cut parts new is tic all = cut_holds (HoldsTurn long) parts new is all
edited_holds long (script.Repeat count) parts new is tic all = repeat_holds (HoldsTurn long) count parts new is all
edited_holds long script.Show parts new is tic all = same_tape long parts new is all
edited_holds long (script.ShowSector sector) parts new is tic all = same_tape long parts new is all
edited_holds long script.ShowKeys parts new is tic all = same_tape long parts new is all
edited_holds long script.ShowHealth parts new is tic all = same_tape long parts new is all
edited_holds long (script.Want want) parts new is tic all = same_tape long parts new is all
edited_holds long (script.Go ranges wants) parts new is tic all = same_tape long parts new is all
