-- What the commands of a session make of its tape and of its report, in a game and by plain replays.
use Rattle.std.specs.Prelude.{ℕ, ℤ, ◌+◌, nat_lt, if◌then◌else◌, Option, Some, None, List, [], ◌++◌, length, fold, Result, Ok, Err}
use Rattle.lmp_codec.specs.Demo.{most_tics}
use Rattle.game_trait.specs.declared.game.Game.{Ghosts}
use Rattle.game_trait.specs.declared.shown.Shown.{Shown}
use Rattle.game_trait.specs.declared.shown.Quantity.TheVariants as quantity
use Rattle.game_trait.specs.Shown.{is_halted}
use Rattle.game_trait.specs.Replay.{replay}
use Rattle.brute_ranges.specs.Space.{Ranges, sequence_at}
use Rattle.brute_targets.specs.declared.want.Want.{Want}
use Rattle.brute_run.specs.Search.{first_meeting}
use Rattle.build_script.specs.declared.commands.Command.{Command}
use Rattle.build_script.specs.declared.commands.Command.TheVariants as script
use Rattle.build_script.specs.declared.commands.Entry.{Entry}
use Rattle.build_edits.specs.Parts.{Parts}
use Rattle.build_edits.specs.Edits.{Outcome, seek_outcome, put_outcome, insert_outcome, delete_outcome, cut_outcome, repeat_outcome}
use Rattle.build_edits.specs.declared.fault.EditFault.{EditFault}
use Rattle.build_edits.specs.declared.fault.EditFault.TheVariants.{TooLong}
use Rattle.game_trait.specs.declared.details.Ground.{Ground}
use Rattle.game_trait.specs.declared.details.Vitals.{Vitals}
use Rattle.build_session.specs.declared.show.Form.{Form}
use Rattle.build_session.specs.declared.show.Form.TheVariants as form
use Rattle.build_session.specs.Lines.{world_line, ground_line, keys_line, vitals_line, answer_lines}

-- What a session asks: the rules of its game, of a world its sectors and the player's body, and of a search from a world
-- the number of turns, where it is told.
pub record Play (G W : Type 0) : Type 1 where
  pub rules : Ghosts G W
  pub ground_of : G → W → ℕ → Ground
  pub vitals_of : G → W → Vitals
  pub turns_of : G → W → Ranges → List Want → Option ℕ

abbrev pub play_of : {G W : Type 0} → Ghosts G W → (G → W → ℕ → Ground) → (G → W → Vitals) → (G → W → Ranges → List Want → Option ℕ) → Play G W
play_of rules sectors vitals turns = record { rules = rules; ground_of = sectors; vitals_of = vitals; turns_of = turns }

-- A session knows the tics before its cursor and those from it on, and what it has told.
pub record State : Type 0 where
  pub tape : Parts
  pub report : List ℕ

-- the world at the cursor
abbrev pub world_at : {G W : Type 0} → Play G W → G → State → W
world_at play game state = replay play.rules game state.tape.before

-- more is told
abbrev pub told : State → List ℕ → State
told state lines = record state { report = state.report ++ lines }

-- the tape is edited, or the edit is refused
abbrev pub on_tape : State → Outcome → Result State EditFault
on_tape state (Ok tape) = Ok (record state { tape = tape })
on_tape state (Err fault) = Err fault

-- a line of a world, unless it is halted: then that it is
abbrev pub unless_halted : Shown → List ℕ → List ℕ
unless_halted shown line = if is_halted shown then world_line shown else line

abbrev pub keys_or_halt : Shown → Option ℤ → List ℕ
keys_or_halt shown (Some keys) = keys_line keys
keys_or_halt shown None = world_line shown

-- what a world shows in each form
abbrev pub form_line : {G W : Type 0} → Play G W → G → W → Form → List ℕ
form_line play game world form.World = world_line (play.rules.shown_of game world)
form_line play game world (form.Sector sector) = unless_halted (play.rules.shown_of game world) (ground_line sector (play.ground_of game world sector))
form_line play game world form.Keys = keys_or_halt (play.rules.shown_of game world) (play.rules.reading_of game world quantity.Keys)
form_line play game world form.Health = unless_halted (play.rules.shown_of game world) (vitals_line (play.vitals_of game world))

abbrev pub shown_in : {G W : Type 0} → Play G W → G → Form → State → State
shown_in play game form state = told state (form_line play game (world_at play game state) form)

-- the first sequence that meets comes after the tics before the cursor, in place of the rest
abbrev pub accepted : Ranges → Option ℕ → Parts → Parts
accepted ranges None tape = tape
accepted ranges (Some number) tape = record { before = tape.before ++ sequence_at ranges number; after = [] }

-- the first sequence that meets, of a search from the world at the cursor
abbrev pub first_of_search : {G W : Type 0} → Play G W → G → Ranges → List Want → State → Option ℕ
first_of_search play game ranges wants state = first_meeting play.rules game (world_at play game state) wants ranges

abbrev pub answered : {G W : Type 0} → Play G W → G → Ranges → List Want → State → Option ℕ → State
answered play game ranges wants state first = record {
  tape = accepted ranges first state.tape;
  report = state.report ++ answer_lines first (play.turns_of game (world_at play game state) ranges wants);
}

-- `go`: the answer of the search, where the tics of a sequence would not be too many
abbrev pub searched : {G W : Type 0} → Play G W → G → Ranges → List Want → State → Result State EditFault
searched play game ranges wants state =
    if nat_lt most_tics (length state.tape.before + length ranges.tics) then Err TooLong
    else Ok (answered play game ranges wants state (first_of_search play game ranges wants state))

-- what each command makes of a session
abbrev pub carried : {G W : Type 0} → Play G W → G → Command → State → Result State EditFault
carried play game (script.Seek place) state = on_tape state (seek_outcome place state.tape)
carried play game (script.Put tic) state = on_tape state (put_outcome tic state.tape)
carried play game (script.Insert tic) state = on_tape state (insert_outcome tic state.tape)
carried play game script.Delete state = on_tape state (delete_outcome state.tape)
carried play game script.Cut state = on_tape state (cut_outcome state.tape)
carried play game (script.Repeat count) state = on_tape state (repeat_outcome count state.tape)
carried play game script.Show state = Ok (shown_in play game form.World state)
carried play game (script.ShowSector sector) state = Ok (shown_in play game (form.Sector sector) state)
carried play game script.ShowKeys state = Ok (shown_in play game form.Keys state)
carried play game script.ShowHealth state = Ok (shown_in play game form.Health state)
-- a target is the search's that a later command carries out
carried play game (script.Want want) state = Ok state
carried play game (script.Go ranges wants) state = searched play game ranges wants state

-- the refusal of a command is that of its line
abbrev pub at_line : {A : Type 0} → ℕ → Result A EditFault → Result A (ℕ × EditFault)
at_line line (Ok done) = Ok done
at_line line (Err fault) = Err (line, fault)

-- one command more; none is carried out after the first that is refused
abbrev pub next_carried : {G W : Type 0} → Play G W → G → Result State (ℕ × EditFault) → Entry → Result State (ℕ × EditFault)
next_carried play game (Ok state) entry = at_line entry.line (carried play game entry.command state)
next_carried play game (Err fault) entry = Err fault

-- What a script makes of a session, or its first refusal with the line.
abbrev pub all_carried : {G W : Type 0} → Play G W → G → List Entry → State → Result State (ℕ × EditFault)
all_carried play game entries state = fold (next_carried play game) (Ok state) entries

-- a sector that a command names is there
abbrev pub NamesSectors : (ℕ → Type 0) → Command → Type 0
NamesSectors has_sector (script.ShowSector sector) = has_sector sector
NamesSectors has_sector command = Unit {0}

-- a sector that a form names is there
abbrev pub HasForm : (ℕ → Type 0) → Form → Type 0
HasForm has_sector (form.Sector sector) = has_sector sector
HasForm has_sector form = Unit {0}
