-- How many tics the commands of a session play. Worlds are kept every so many tics, up to the last kept place, and a
-- world is played on from the last one that is not past it.
use Rattle.std.specs.Prelude.{ℕ, ◌-◌, max, Option, Some, None, List, length, fold, Result, Ok, Err}
use Rattle.doom_edge.specs.Costs.{Cost, free, steps, both}
use Rattle.key_frames.specs.Frames.{frame_tic, frame_below}
use Rattle.brute_run.specs.Costs.{search_cost}
use Rattle.build_script.specs.declared.commands.Command.{Command}
use Rattle.build_script.specs.declared.commands.Command.TheVariants as script
use Rattle.build_script.specs.declared.commands.Entry.{Entry}
use Rattle.build_edits.specs.declared.fault.EditFault.{EditFault}
use Rattle.build_session.specs.Session.{Play, State, world_at, first_of_search, carried, at_line}

-- the tics that are played, and the last kept place after it
pub record Spent : Type 0 where
  pub cost : Cost
  pub reach : ℕ

-- nothing is played, and worlds are kept up to here
abbrev pub kept_to : ℕ → Spent
kept_to reach = record { cost = free; reach = reach }

-- a world is shown: it is played on from the last kept one, and those on the way are kept
abbrev pub showing : ℕ → ℕ → Spent
showing cursor reach = record { cost = steps (cursor - frame_below reach cursor); reach = max reach (frame_tic cursor) }

-- an edit at the cursor drops the kept worlds past it
abbrev pub editing : ℕ → ℕ → Spent
editing cursor reach = kept_to (frame_below reach cursor)

-- a sequence that is accepted is an edit
abbrev pub kept_after : Option ℕ → ℕ → ℕ → ℕ
kept_after None cursor reach = reach
kept_after (Some number) cursor reach = frame_below reach cursor

-- a search plays from a world that is shown first
abbrev pub finding : Option ℕ → Cost → ℕ → ℕ → Spent
finding first cost cursor reach = record {
  cost = both (showing cursor reach).cost cost;
  reach = kept_after first cursor (showing cursor reach).reach;
}

abbrev pub spent_by : {G W : Type 0} → Play G W → G → Command → State → ℕ → ℕ → Spent
spent_by play game (script.Seek place) state cursor reach = kept_to reach
spent_by play game (script.Put tic) state cursor reach = editing cursor reach
spent_by play game (script.Insert tic) state cursor reach = editing cursor reach
spent_by play game script.Delete state cursor reach = editing cursor reach
spent_by play game script.Cut state cursor reach = editing cursor reach
spent_by play game (script.Repeat count) state cursor reach = editing cursor reach
spent_by play game script.Show state cursor reach = showing cursor reach
spent_by play game (script.ShowSector sector) state cursor reach = showing cursor reach
spent_by play game script.ShowKeys state cursor reach = showing cursor reach
spent_by play game script.ShowHealth state cursor reach = showing cursor reach
spent_by play game (script.Want want) state cursor reach = kept_to reach
spent_by play game (script.Go ranges wants) state cursor reach =
    finding (first_of_search play game ranges wants state) (search_cost play.rules game (world_at play game state) wants ranges) cursor reach

-- what a command plays in a session whose worlds are kept up to a place
abbrev pub spent : {G W : Type 0} → Play G W → G → Command → State → ℕ → Spent
spent play game command state reach = spent_by play game command state (length state.tape.before) reach

-- ---- both tables at once

-- a session, and what was spent on it so far
pub record Run : Type 0 where
  pub state : State
  pub spent : Spent

abbrev pub run_at : State → Spent → Run
run_at state spent = record { state = state; spent = spent }

-- one piece of work and then another
abbrev pub spent_after : Spent → Spent → Spent
spent_after first more = record { cost = both first.cost more.cost; reach = more.reach }

abbrev pub with_spent : Spent → Spent → Result State EditFault → Result Run EditFault
with_spent first more (Ok state) = Ok (run_at state (spent_after first more))
with_spent first more (Err fault) = Err fault

abbrev pub run_of : {G W : Type 0} → Play G W → G → Command → Run → Result Run EditFault
run_of play game command run = with_spent run.spent (spent play game command run.state run.spent.reach) (carried play game command run.state)

abbrev pub next_run : {G W : Type 0} → Play G W → G → Result Run (ℕ × EditFault) → Entry → Result Run (ℕ × EditFault)
next_run play game (Ok run) entry = at_line entry.line (run_of play game entry.command run)
next_run play game (Err fault) entry = Err fault

-- a script with what it plays
abbrev pub all_run : {G W : Type 0} → Play G W → G → List Entry → Run → Result Run (ℕ × EditFault)
all_run play game entries run = fold (next_run play game) (Ok run) entries

-- a session in which nothing was spent, whose worlds are kept up to a place
abbrev pub unspent : State → ℕ → Run
unspent state reach = run_at state (kept_to reach)

-- the session of a run
abbrev pub state_of_run : Result Run (ℕ × EditFault) → Result State (ℕ × EditFault)
state_of_run (Ok run) = Ok run.state
state_of_run (Err fault) = Err fault
