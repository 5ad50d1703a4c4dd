-- What a command line means: what its words come to over the files that they name. It knows nothing of the order in
-- which files are taken, put and pushed.
use Rattle.std.specs.Prelude.{◌≡◌, ℕ, Bool, true, false, not, map, fold, Result, Ok, Err, Option, Some, None, List, [], ◌∷◌, ◌++◌, codes, length, nat_lt, option_map, find, slice_get, unwrap_or, All}
use Rattle.std.specs.List.{zip}
use Rattle.std.specs.Fmt.{decimal}
use Rattle.std.specs.FinMap as map
use Rattle.doom_edge.specs.Devices.{Files}
use Rattle.doom_edge.specs.Costs.{Cost, free}
use Rattle.lmp_codec.specs.Header.{is_long}
use Rattle.lmp_codec.specs.Demo.{written, IsVerdict}
use Rattle.lmp_codec.specs.declared.input.Tic.{Tic}
use Rattle.lmp_codec.specs.declared.whole.Demo.{Demo}
use Rattle.lmp_codec.specs.declared.fault.DemoFault.{DemoFault}
use Rattle.wad_lumps.specs.Directory.{file_conditions}
use Rattle.wad_lumps.specs.Map.{map_conditions, IsMap}
use Rattle.fixed_angle.specs.Tables.{Tables}
use Rattle.fixed_angle.specs.TableFile.{table_conditions, tables_of}
use Rattle.map_geometry.specs.Lists.{Lists}
use Rattle.map_load.specs.Load.{level_conditions}
use Rattle.map_load.specs.Spelled.{spelled}
use Rattle.cow_world.specs.Flat.{Gridded}
use Rattle.brute_ranges.specs.Space.{Ranges}
use Rattle.brute_targets.specs.declared.want.Want.{Want}
use Rattle.brute_targets.specs.declared.want.Want.TheVariants as want
use Rattle.level_start.specs.Start.{start_fault, start_of}
use Rattle.level_start.specs.declared.fault.StartFault.{StartFault}
use Rattle.build_script.specs.Script.{script_of}
use Rattle.build_script.specs.declared.fault.Kind.{Kind}
use Rattle.build_script.specs.declared.commands.Entry.{Entry}
use Rattle.build_script.specs.declared.commands.Command.{Command as Edit}
use Rattle.build_script.specs.declared.commands.Command.TheVariants as script
use Rattle.build_edits.specs.Parts.{Parts, all_tics}
use Rattle.build_edits.specs.Edits.{seek_outcome, put_outcome, insert_outcome, delete_outcome, cut_outcome, repeat_outcome}
use Rattle.build_edits.specs.declared.fault.EditFault.{EditFault}
use Rattle.play_step.specs.Doom.{Setup}
use Rattle.play_step.specs.Rules.{doom_rules, HasSector, ground_of, vitals_of}
use Rattle.build_session.specs.Session.{Play, State, play_of, all_carried, NamesSectors}
use Rattle.build_session.specs.Costs.{Run, all_run, unspent}
use Rattle.build_session.specs.Searches.{untold, turns_of_order}
use Rattle.gallery_gen.specs.Plan.{room_count}
use Rattle.gallery_gen.specs.Tables.{tables_bytes}
use Rattle.gallery_gen.specs.Gallery.{tic_count, wad_bytes, demo_bytes}
use Rattle.dsda_cli.specs.Order.{order_of}
use Rattle.dsda_cli.specs.Commands.{word_at, command_of, inputs_of, out_name}
use Rattle.dsda_cli.specs.LevelReport.{episode_of, map_of, level_lines}
use Rattle.dsda_cli.specs.Judging.{Judgement, exactly, judged, such_that, ◌>>=◌, ◌>>◌}
use Rattle.dsda_cli.specs.declared.command.Command.{Command}
use Rattle.dsda_cli.specs.declared.command.Command.TheVariants as command
use Rattle.dsda_cli.specs.declared.command.Input.{Input}
use Rattle.dsda_cli.specs.declared.fault.InputFault.{InputFault}
use Rattle.dsda_cli.specs.declared.fault.InputFault.TheVariants as input_fault

-- what a command reports, and the demo that it puts, if it puts one
pub record Output : Type 0 where
  pub report : List ℕ
  pub demo : Option (List ℕ)

-- What a command that is carried out gives: its output, at the cost of so many tic steps.
pub record Work : Type 0 where
  pub output : Output
  pub cost : Cost

abbrev pub with_cost : Output → Cost → Work
with_cost output cost = record { output = output; cost = cost }

-- the work of a command that plays no tic
abbrev pub unplayed : List ℕ → Option (List ℕ) → Work
unplayed report demo = with_cost (record { report = report; demo = demo }) free

-- a text as a demo, or its first fault from the left, which is the input's: the verdict on the whole text
abbrev pub as_demo : List ℕ → Judgement Demo
as_demo text (Ok demo) = IsVerdict text (Ok demo)
as_demo text (Err fault) = (first : DemoFault) × IsVerdict text (Err first) × (fault ≡ input_fault.Demo first)

-- a script; its first fault is the input's
abbrev pub as_script : Result (List Entry) (ℕ × Kind) → Result (List Entry) InputFault
as_script (Ok entries) = Ok entries
as_script (Err fault) = Err (input_fault.Script fault.0 fault.1)

-- what a command makes of the tics before the cursor and of those from it on
abbrev pub edited_by : Edit → Parts → Result Parts EditFault
edited_by (script.Seek place) parts = seek_outcome place parts
edited_by (script.Put tic) parts = put_outcome tic parts
edited_by (script.Insert tic) parts = insert_outcome tic parts
edited_by script.Delete parts = delete_outcome parts
edited_by script.Cut parts = cut_outcome parts
edited_by (script.Repeat count) parts = repeat_outcome count parts
-- these are no words of a script without worlds
edited_by script.Show parts = Ok parts
edited_by (script.ShowSector sector) parts = Ok parts
edited_by script.ShowKeys parts = Ok parts
edited_by script.ShowHealth parts = Ok parts
edited_by (script.Want want) parts = Ok parts
edited_by (script.Go ranges wants) parts = Ok parts

-- what a command of a line comes to; its fault is the line's
abbrev pub at_line : ℕ → Result Parts EditFault → Result Parts InputFault
at_line line (Ok parts) = Ok parts
at_line line (Err fault) = Err (input_fault.Edit line fault)

-- one command more; none is carried out after the first that is refused
abbrev pub next_edit : Result Parts InputFault → Entry → Result Parts InputFault
next_edit (Ok parts) entry = at_line entry.line (edited_by entry.command parts)
next_edit (Err fault) entry = Err fault

-- what the commands make of a tape, one after the other
abbrev pub edits_of : List Entry → Parts → Result Parts InputFault
edits_of entries parts = fold next_edit (Ok parts) entries

-- the tics that a script leaves of a long or a short demo's
unfoldable pub scripted : Bool → List ℕ → List Tic → Judgement (List Tic)
scripted long script tics = do
  entries ← exactly (as_script (script_of false long script))
  parts ← exactly (edits_of entries (record { before = []; after = tics }))
  exactly (Ok (all_tics parts))

-- `edit`: the demo with the tics that the script leaves, and nothing to report
unfoldable pub edited : List ℕ → List ℕ → Judgement Work
edited demo script = do
  before ← as_demo demo
  tics ← scripted (is_long before.header) script before.tics
  exactly (Ok (unplayed [] (Some (written before.header tics))))

-- the level of the map that a demo's header names
unfoldable pub level_in : List ℕ → List ℕ → Judgement Lists
level_in wad header = do
  judged (map_conditions wad (episode_of header) (map_of header)) input_fault.Wad
  found ← such_that (IsMap wad (episode_of header) (map_of header))
  judged (level_conditions wad found.spans.items found.other_form found.episode_form) input_fault.Level
  exactly (Ok (spelled wad found.spans.items found.episode_form))

-- the world with which a level starts, unless something is wrong with its things
abbrev pub started : Option StartFault → Gridded → Result Gridded InputFault
started None world = Ok world
started (Some fault) world = Err (input_fault.Start fault)

-- the start of a level, at the skill of a demo's header
unfoldable pub begun : Lists → Tables → List ℕ → Judgement Gridded
begun level tables header = exactly (started (start_fault level tables header) (start_of level tables header))

-- the report of a level, which tells its start
unfoldable pub reported : Lists → Tables → List ℕ → Judgement Work
reported level tables header = do
  world ← begun level tables header
  exactly (Ok (unplayed (level_lines header level world) None))

-- `level`: what the level is made of, and its start
unfoldable pub levelled : List ℕ → List ℕ → List ℕ → Judgement Work
levelled wad tables demo = do
  judged (file_conditions wad) input_fault.Wad
  judged (table_conditions tables) input_fault.Tables
  played ← as_demo demo
  level ← level_in wad played.header
  reported level (tables_of tables) played.header

-- ---- sessions

-- what the files of a session are read as
pub record Read : Type 0 where
  pub wad : List ℕ
  pub tables : Tables
  pub demo : Demo
  pub entries : List Entry

-- the WAD, the tables, the demo and the script, each by itself
unfoldable pub files_read : List ℕ → List ℕ → List ℕ → List ℕ → Judgement Read
files_read wad tables demo script = do
  judged (file_conditions wad) input_fault.Wad
  judged (table_conditions tables) input_fault.Tables
  played ← as_demo demo
  entries ← exactly (as_script (script_of true (is_long played.header) script))
  exactly (Ok (record { wad = wad; tables = tables_of tables; demo = played; entries = entries }))

-- whether the level has the sector or the line that a command names, if it names one
abbrev pub has_named : Lists → Edit → Bool
has_named level (script.ShowSector sector) = nat_lt sector (length level.sectors)
has_named level (script.Want (want.Line line)) = nat_lt line (length level.lines)
has_named level other = true

-- the first command that names what isn't there
abbrev pub misnamed : Lists → List Entry → Option Entry
misnamed level entries = find (λ entry. not (has_named level entry.command)) entries

abbrev pub named_unless : Option Entry → Result (Unit {0}) InputFault
named_unless None = Ok tt
named_unless (Some entry) = Err (input_fault.Name entry.line)

-- The game that a demo plays: its level starts, and has all that the script names.
unfoldable pub set_up : List ℕ → Tables → List ℕ → List Entry → Judgement Setup
set_up wad tables header entries = do
  level ← level_in wad header
  begun level tables header
  exactly (named_unless (misnamed level entries))
  exactly (Ok (record { level = level; tables = tables; header = header }))

-- all sectors that a script names are there
abbrev pub AllThere : Setup → List Entry → Type 0
AllThere setup entries = All (λ entry. NamesSectors (HasSector setup) entry.command) entries

-- The rules of the game, what is shown of its worlds, and how many turns a search takes, where that is told.
abbrev pub play_with : (Setup → Gridded → Ranges → List Want → Option ℕ) → Play Setup Gridded
play_with turns = play_of doom_rules ground_of vitals_of turns

-- a session of a demo's tics, with the cursor at its start and nothing told
abbrev pub fresh : List Tic → State
fresh tics = record { tape = record { before = []; after = tics }; report = [] }

-- what is reported and put where the session ends so; a refusal is that of its line
abbrev pub ended_as : List ℕ → Result State (ℕ × EditFault) → Cost → Result Work InputFault
ended_as header (Ok state) cost = Ok (with_cost (record { report = state.report; demo = Some (written header (all_tics state.tape)) }) cost)
ended_as header (Err refused) cost = Err (input_fault.Edit refused.0 refused.1)

-- the tics that were played, where the script was carried out to its end
abbrev pub cost_of : Result Run (ℕ × EditFault) → Cost
cost_of (Ok run) = run.spent.cost
cost_of (Err refused) = free

-- The script carried out on the demo's tics, in the game that is played so: by plain replays, and at what it costs
-- where no world is kept but the one at tic 0.
abbrev pub carried_in : Play Setup Gridded → Setup → List Tic → List Entry → Result Work InputFault
carried_in play game tics entries =
    ended_as game.header (all_carried play game entries (fresh tics)) (cost_of (all_run play game entries (unspent (fresh tics) 0)))

-- a session over what was read
unfoldable pub session : (Setup → Gridded → Ranges → List Want → Option ℕ) → Read → Judgement Work
session turns read = do
  game ← set_up read.wad read.tables read.demo.header read.entries
  exactly (carried_in (play_with turns) game read.demo.tics read.entries)

-- `build`: the demo as the script makes it, and what was shown and found. Who searches makes no difference.
unfoldable pub built : List ℕ → List ℕ → List ℕ → List ℕ → Judgement Work
built wad tables demo script = do
  read ← files_read wad tables demo script
  session untold read

-- an order file; its fault is the input's
abbrev pub as_order : Result (List ℕ) ℕ → Result (List ℕ) InputFault
as_order (Ok hands) = Ok hands
as_order (Err place) = Err (input_fault.Order place)

-- `sim`: the same, and with each answer of a search the number of turns that its hands take under the order
unfoldable pub simulated : List ℕ → List ℕ → List ℕ → List ℕ → List ℕ → Judgement Work
simulated wad tables demo script order = do
  read ← files_read wad tables demo script
  hands ← exactly (as_order (order_of order))
  session (turns_of_order doom_rules hands) read

-- ---- galleries

-- the line of a gallery: its number, its rooms, and the tics of its demo
unfoldable pub gallery_line : ℕ → List ℕ
gallery_line number =
    codes "gen " ++ decimal number ++ codes " rooms " ++ decimal (room_count number) ++ codes " tics " ++ decimal (tic_count number) ++ codes "\n"

-- The script of a gallery of so many tics: the demo is shown at its end, before and after a tic is edited, and then a
-- search goes on from there.
unfoldable pub gallery_script : ℕ → List ℕ
gallery_script tics =
    codes "seek " ++ decimal tics
    ++ codes "\nshow\nseek 10\nput 0 0 0 0\nseek " ++ decimal tics
    ++ codes "\nshow\nbrute 3\nrange all forward 40 50\nrange all side -2 2\nwant momx > 0\ngo\nshow\n"

-- `gen`: what a `build` of a gallery's files and script reports, behind the gallery's line. No demo is put.
unfoldable pub generated : ℕ → Judgement Work
generated number = do
  work ← built (wad_bytes number) tables_bytes (demo_bytes number) (gallery_script (tic_count number))
  exactly (Ok (with_cost (record { report = gallery_line number ++ work.output.report; demo = None }) work.cost))

-- ---- command lines

-- the text of the input at a place
abbrev pub text_at : List (List ℕ) → ℕ → List ℕ
text_at texts place = unwrap_or (slice_get texts place) []

-- what each command makes of the texts of its inputs
abbrev pub worked : Command → List (List ℕ) → Judgement Work
worked command.Edit texts = edited (text_at texts 0) (text_at texts 1)
worked command.Level texts = levelled (text_at texts 0) (text_at texts 1) (text_at texts 2)
worked (command.Build workers) texts = built (text_at texts 0) (text_at texts 1) (text_at texts 2) (text_at texts 3)
worked command.Sim texts = simulated (text_at texts 0) (text_at texts 1) (text_at texts 2) (text_at texts 3) (text_at texts 4)
worked (command.Gen number) texts = generated number

-- the first input whose text is above its limit
abbrev pub too_large : List Input → List (List ℕ) → Option (Input × List ℕ)
too_large inputs texts = find (λ pair. nat_lt pair.0.limit (length pair.1)) (zip inputs texts)

abbrev pub worked_unless : Command → List (List ℕ) → Option (Input × List ℕ) → Judgement Work
worked_unless command texts (Some pair) = exactly (Err (input_fault.Large pair.0.word))
worked_unless command texts None = worked command texts

-- the first text above its limit is refused before any text is read
abbrev pub answer_of : Command → List (List ℕ) → Judgement Work
answer_of command texts = worked_unless command texts (too_large (inputs_of command) texts)

-- the values, where each is there
abbrev pub all_of : {A : Type 0} → List (Option A) → Option (List A)
all_of [] = Some []
all_of (None ∷ options) = None
all_of (Some value ∷ options) = option_map (λ values. value ∷ values) (all_of options)

-- the texts of the inputs, where each is held
abbrev pub contents : Files → List (List ℕ) → List Input → Option (List (List ℕ))
contents files words inputs = all_of (map (λ input. map.get files (word_at words input.word)) inputs)

-- what a command line comes to
pub data Outcome : Type 0 where
  -- the words are no command line
  Misused : Outcome
  -- an input isn't held
  Unheld : Outcome
  -- the first fault of the inputs
  Refusal : InputFault → Outcome
  -- the report, the name and the bytes of the file that is put, if one is, and what the work costs in tic steps
  Reported : List ℕ → Option (List ℕ × List ℕ) → Cost → Outcome

-- the demo under its name, where there are both
abbrev pub put_under : Option (List ℕ) → Option (List ℕ) → Option (List ℕ × List ℕ)
put_under (Some name) (Some demo) = Some (name, demo)
put_under name demo = None

-- the work, with its demo under this name, or the refusal
abbrev pub outcome_under : Option (List ℕ) → Result Work InputFault → Outcome
outcome_under name (Err fault) = Refusal fault
outcome_under name (Ok work) = Reported work.output.report (put_under name work.output.demo) work.cost

-- What the words come to over these files.
pub data Means (words : List (List ℕ)) (files : Files) (outcome : Outcome) : Type 0 where
  -- the words ask for nothing
  misused : command_of words ≡ None → outcome ≡ Misused → Means words files outcome
  -- an input of the command that they ask for isn't held
  unheld : (command : Command) → command_of words ≡ Some command → contents files words (inputs_of command) ≡ None → outcome ≡ Unheld → Means words files outcome
  -- all are, and their texts have a right answer
  answered : (command : Command) (texts : List (List ℕ)) (answer : Result Work InputFault) → command_of words ≡ Some command → contents files words (inputs_of command) ≡ Some texts → answer_of command texts answer → outcome ≡ outcome_under (out_name words command) answer → Means words files outcome

-- What the words come to over some texts, one for each input, wherever they come from.
pub data ComesTo (words : List (List ℕ)) (outcome : Outcome) : Type 0 where
  -- the words ask for nothing
  unasked : command_of words ≡ None → outcome ≡ Misused → ComesTo words outcome
  -- the texts have a right answer
  over : (command : Command) (texts : List (List ℕ)) (answer : Result Work InputFault) → command_of words ≡ Some command → answer_of command texts answer → outcome ≡ outcome_under (out_name words command) answer → ComesTo words outcome

-- What the words come to over what a shelf holds; over some texts, where it doesn't tell.
abbrev pub IsMeaning : List (List ℕ) → Option Files → Outcome → Type 0
IsMeaning words (Some files) outcome = Means words files outcome
IsMeaning words None outcome = ComesTo words outcome
