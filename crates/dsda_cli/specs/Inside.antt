-- What the private functions promise to each other.
use Rattle.std.specs.Prelude.{◌≡◌, ◌≢◌, ◌+◌, ℕ, List, [], Option, Some, None, Result, Ok, Err, OnOk, take, option_map}
use Rattle.std.specs.FinMap as map
use Rattle.doom_edge.specs.Counts.{Rose}
use Rattle.doom_edge.specs.Costs.{Cost, free, Rises}
use Rattle.doom_edge.specs.declared.shelf.Shelf as shelf
use Rattle.doom_edge.specs.declared.sink.Sink as sink
use Rattle.doom_edge.specs.Devices.{Files, but_for, grown, GrewByPrefix}
use Rattle.doom_edge.specs.declared.shelf.TakeFault.{TakeFault}
use Rattle.doom_edge.specs.declared.shelf.TakeFault.TheVariants as take_fault
use Rattle.doom_edge.specs.declared.shelf.PutFault.{PutFault}
use Rattle.doom_edge.specs.declared.shelf.PutFault.TheVariants as put_fault
use Rattle.doom_edge.specs.declared.sink.PushFault.{PushFault}
use Rattle.doom_edge.specs.declared.sink.PushFault.TheVariants as push_fault
use Rattle.wad_lumps.specs.declared.fault.WadFault.{WadFault}
use Rattle.wad_lumps.specs.declared.fault.WadFault.TheVariants as wad_fault
use Rattle.fixed_angle.specs.declared.fault.TabFault.{TabFault}
use Rattle.fixed_angle.specs.declared.fault.TabFault.TheVariants as tables_fault
use Rattle.map_geometry.specs.declared.fault.LevelFault.{LevelFault}
use Rattle.map_geometry.specs.declared.fault.LevelFault.TheVariants as level_fault
use Rattle.level_start.specs.declared.fault.StartFault.{StartFault}
use Rattle.level_start.specs.declared.fault.StartFault.TheVariants as start_fault
use Rattle.lmp_codec.specs.declared.fault.DemoFault.{DemoFault}
use Rattle.lmp_codec.specs.declared.fault.DemoFault.TheVariants as demo_fault
use Rattle.build_script.specs.declared.fault.ScriptFault.{ScriptFault}
use Rattle.build_script.specs.declared.fault.ScriptFault.TheVariants as script_fault
use Rattle.build_edits.specs.declared.fault.EditFault.{EditFault}
use Rattle.build_edits.specs.declared.fault.EditFault.TheVariants as edit_fault
use Rattle.build_session.specs.declared.fault.SessionFault.{SessionFault}
use Rattle.build_session.specs.declared.fault.SessionFault.TheVariants as session_fault
use Rattle.dsda_cli.specs.declared.order.OrderFault.{OrderFault}
use Rattle.dsda_cli.specs.declared.order.OrderFault.TheVariants as order_fault
use Rattle.dsda_cli.specs.Commands.{word_at}
use Rattle.dsda_cli.specs.Refusal.{line_of}
use Rattle.dsda_cli.specs.Judging.{Judgement}
use Rattle.dsda_cli.specs.Meaning.{Output, with_cost, outcome_under}
use Rattle.dsda_cli.specs.Ending.{Seen, with_put, EndsAs, IsUntouched}
use Rattle.dsda_cli.specs.declared.command.Input.{Input}
use Rattle.dsda_cli.specs.declared.fault.InputFault.{InputFault}
use Rattle.dsda_cli.specs.declared.fault.InputFault.TheVariants as input_fault
use Rattle.dsda_cli.specs.declared.product.Stop.{Stop}
use Rattle.dsda_cli.specs.declared.product.Stop.TheVariants as stop
use Rattle.dsda_cli.specs.declared.status.Status.{Status}
use Rattle.dsda_cli.specs.declared.status.Status.TheVariants as status

-- what is asked for of an input: one byte more than its limit
abbrev pub front_of : Files → List (List ℕ) → Input → Option (List ℕ)
front_of files words input = option_map (take (input.limit + 1)) (map.get files (word_at words input.word))

-- a WAD's fault, or its map's, as an end of the work
abbrev pub stop_of_wad : WadFault → Stop
stop_of_wad wad_fault.Memory = stop.Memory
stop_of_wad fault = stop.Refused (input_fault.Wad fault)

-- a table file's fault as an end of the work
abbrev pub stop_of_tables : TabFault → Stop
stop_of_tables tables_fault.Memory = stop.Memory
stop_of_tables fault = stop.Refused (input_fault.Tables fault)

-- a level's fault as an end of the work
abbrev pub stop_of_level : LevelFault → Stop
stop_of_level level_fault.Memory = stop.Memory
stop_of_level fault = stop.Refused (input_fault.Level fault)

-- why a level can't be started, as an end of the work
abbrev pub stop_of_start : StartFault → Stop
stop_of_start start_fault.Memory = stop.Memory
stop_of_start fault = stop.Refused (input_fault.Start fault)

-- a demo's fault as an end of the work
abbrev pub stop_of_demo : DemoFault → Stop
stop_of_demo demo_fault.Memory = stop.Memory
stop_of_demo fault = stop.Refused (input_fault.Demo fault)

-- a script's fault as an end of the work
abbrev pub stop_of_script : ScriptFault → Stop
stop_of_script (script_fault.Line line kind) = stop.Refused (input_fault.Script line kind)
stop_of_script script_fault.Memory = stop.Memory

-- an edit's fault, with its line, as an end of the work
abbrev pub stop_of_edit : ℕ → EditFault → Stop
stop_of_edit line edit_fault.Memory = stop.Memory
stop_of_edit line fault = stop.Refused (input_fault.Edit line fault)

-- an order file's fault as an end of the work
abbrev pub stop_of_order : OrderFault → Stop
stop_of_order (order_fault.At place) = stop.Refused (input_fault.Order place)
stop_of_order order_fault.Memory = stop.Memory

-- why a script is not carried out to its end, as an end of the work
abbrev pub stop_of_session : SessionFault → Stop
stop_of_session (session_fault.Edit line fault) = stop_of_edit line fault
stop_of_session session_fault.Memory = stop.Memory

-- a right answer, where what was returned is seen by `view`, or nothing where there was no memory
abbrev pub IsRight : {A B : Type 0} → (A → B) → Judgement B → Result A Stop → Type 0
IsRight view judgement (Ok value) = judgement (Ok (view value))
IsRight view judgement (Err (stop.Refused fault)) = judgement (Err fault)
IsRight view judgement (Err stop.Memory) = Unit {0}

-- what was returned is a right answer, unless there was no memory
pub record Gives {A B : Type 0} (view : A → B) (given : Result A Stop) (judgement : Judgement B) : Type 0 where
  pub right : IsRight view judgement given

-- What was returned is a right answer, at a cost by which the counter of tic steps rose, unless there was no memory.
pub record Takes {A B : Type 0} (view : A → Cost → B) (given : Result A Stop) (judgement : Judgement B) (before after : ℕ) : Type 0 where
  pub cost : Cost
  pub right : IsRight (λ value. view value cost) judgement given
  pub rises : OnOk given (Rises cost before after)

-- a status of a take that was not made
abbrev pub status_of_take : TakeFault → Status
status_of_take take_fault.Failed = status.ReadFault
status_of_take take_fault.Memory = status.Memory

-- a status of a put that was not made
abbrev pub status_of_put : PutFault → Status
status_of_put put_fault.Failed = status.WriteFault
status_of_put put_fault.Memory = status.Memory

-- a status of a push that was not made
abbrev pub status_of_push : PushFault → Status
status_of_push push_fault.Failed = status.NoteFault
status_of_push push_fault.Memory = status.Memory

-- what a put may change of a shelf: what it holds, and how often a put failed
pub record Held : Type 0 where
  pub files : Option Files
  pub puts : ℕ

abbrev pub held : {S : Type 0} → shelf.Ghosts S → S → Held
held S shelf = record { files = S.holds shelf; puts = S.put_faults shelf }

-- what a push may change of a sink: what it got, and how often a push failed
pub record Got : Type 0 where
  pub text : Option (List ℕ)
  pub pushes : ℕ

abbrev pub got : {N : Type 0} → sink.Ghosts N → N → Got
got N note = record { text = N.got note; pushes = N.faults note }

-- the file was put, if there is one, or why not
abbrev pub Puts : Type 0 → Option (List ℕ × List ℕ) → Held → Held → Result (Unit {0}) PutFault → Type 0
Puts sure put before after (Ok _) = (after.files ≡ with_put put before.files) × (put ≡ None → after.puts ≡ before.puts)
Puts sure None before after (Err fault) = ⊥
Puts sure (Some put) before after (Err put_fault.Failed) = (but_for put.0 after.files ≡ but_for put.0 before.files) × Rose before.puts after.puts × (sure → ⊥)
Puts sure (Some put) before after (Err put_fault.Memory) = after.files ≡ before.files

-- the text was pushed, if there is one, or why not
abbrev pub Pushes : Type 0 → List ℕ → Got → Got → Result (Unit {0}) PushFault → Type 0
Pushes sure told before after (Ok _) = (after.text ≡ grown told before.text) × (told ≡ [] → after.pushes ≡ before.pushes)
Pushes sure told before after (Err push_fault.Failed) = GrewByPrefix told before.text after.text × Rose before.pushes after.pushes × (sure → ⊥) × (told ≢ [])
Pushes sure told before after (Err push_fault.Memory) = (after.text ≡ before.text) × (told ≢ [])

-- the line of a refusal was pushed, or why not
abbrev pub TellsRefusal : Type 0 → InputFault → Got → Got → Status → Type 0
TellsRefusal sure fault before after (status.Refused refused) = (refused ≡ fault) × (after.text ≡ grown (line_of fault) before.text)
TellsRefusal sure fault before after status.NoteFault =
    GrewByPrefix (line_of fault) before.text after.text × Rose before.pushes after.pushes × (sure → ⊥)
TellsRefusal sure fault before after status.Memory = after.text ≡ before.text
TellsRefusal sure fault before after other = ⊥

-- How a run ends from what its inputs were judged to: as the outcome under this name says, or with nothing put and
-- nothing pushed, for want of memory. What the work cost makes no difference to that.
abbrev pub EndsBy : Type 0 → Option (List ℕ) → Result Output Stop → Seen → Seen → Status → Type 0
EndsBy sure name (Ok output) before after ended = EndsAs sure (outcome_under name (Ok (with_cost output free))) before after ended
EndsBy sure name (Err (stop.Refused fault)) before after ended = EndsAs sure (outcome_under name (Err fault)) before after ended
EndsBy sure name (Err stop.Memory) before after ended = (ended ≡ status.Memory) × IsUntouched before after
