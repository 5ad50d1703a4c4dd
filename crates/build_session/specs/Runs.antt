-- How a session as it is kept goes as the definitions say. This file names no type of the session's module but its fault.
use Rattle.std.specs.Prelude.{◌≡◌, ℕ, List, take, slice_get, IsSomeAnd, Result, Ok, Err}
use Rattle.doom_edge.specs.Costs.{Rises}
use Rattle.build_script.specs.declared.commands.Entry.{Entry}
use Rattle.build_edits.specs.declared.fault.EditFault.{EditFault}
use Rattle.build_edits.specs.declared.fault.EditFault.TheVariants.{Place, Before, TooLong, Memory}
use Rattle.build_session.specs.declared.fault.SessionFault.{SessionFault}
use Rattle.build_session.specs.declared.fault.SessionFault.TheVariants as session_fault
use Rattle.build_session.specs.Session.{Play, State, carried, all_carried}
use Rattle.build_session.specs.Costs.{Spent, Run}
use Rattle.build_session.specs.Seen.{Seen}

-- what the definitions know of it
abbrev pub state_in : {G : Type 0} → Seen G → State
state_in seen = record { tape = seen.build.tape; report = seen.report }

-- The game stays, the worlds are kept as far as the table says, and the counter of tics rises by the cost.
pub record Spends {G : Type 0} (spent : Spent) (old new : Seen G) (before after : ℕ) : Type 0 where
  pub game : new.build.game ≡ old.build.game
  pub reach : new.build.reach ≡ spent.reach
  pub rises : Rises spent.cost before after

-- A command that was done has made of the session what its table says, at its cost; it is refused where its table
-- refuses it, and then leaves the session, or for want of memory.
abbrev pub Does : {G : Type 0} → Result (Unit {0}) EditFault → Result State EditFault → Spent → Seen G → Seen G → ℕ → ℕ → Type 0
Does (Ok done) carried spent old new before after = (carried ≡ Ok (state_in new)) × Spends spent old new before after
Does (Err Memory) carried spent old new before after = Unit {0}
Does (Err (Place count)) carried spent old new before after = (carried ≡ Err (Place count)) × (new ≡ old)
Does (Err Before) carried spent old new before after = (carried ≡ Err Before) × (new ≡ old)
Does (Err TooLong) carried spent old new before after = (carried ≡ Err TooLong) × (new ≡ old)

-- the same of a script: the refusal is that of a line
abbrev pub CarriesOut : {G : Type 0} → Result (Unit {0}) SessionFault → Result Run (ℕ × EditFault) → Seen G → Seen G → ℕ → ℕ → Type 0
CarriesOut (Ok done) all old new before after = (run : Run) × (all ≡ Ok run) × (run.state ≡ state_in new) × Spends run.spent old new before after
CarriesOut (Err (session_fault.Edit line fault)) all old new before after = all ≡ Err (line, fault)
CarriesOut (Err session_fault.Memory) all old new before after = Unit {0}

-- the same without what it costs
abbrev pub Ends : {G : Type 0} → Result (Unit {0}) SessionFault → Result State (ℕ × EditFault) → Seen G → Type 0
Ends (Ok done) all new = all ≡ Ok (state_in new)
Ends (Err (session_fault.Edit line fault)) all new = all ≡ Err (line, fault)
Ends (Err session_fault.Memory) all new = Unit {0}

-- So many commands have made this session, and in it the next one, which is that of the line, is refused.
pub record StopsAt {G W : Type 0} (play : Play G W) (game : G) (entries : List Entry) (old new : State) (line : ℕ) (fault : EditFault) : Type 0 where
  pub done : ℕ
  pub before : all_carried play game (take done entries) old ≡ Ok new
  pub refused : IsSomeAnd (slice_get entries done) (λ entry. (entry.line ≡ line) × (carried play game entry.command new ≡ Err fault))

-- What stands where a script isn't carried out to its end: after a refusal what the commands before it have made, in
-- the same game. Of want of memory nothing is said.
abbrev pub Stands : {G W : Type 0} → Result (Unit {0}) SessionFault → Play G W → G → List Entry → Seen G → Seen G → Type 0
Stands (Err (session_fault.Edit line fault)) play game entries old new =
    StopsAt play game entries (state_in old) (state_in new) line fault × (new.build.game ≡ old.build.game)
Stands (Err session_fault.Memory) play game entries old new = Unit {0}
Stands (Ok done) play game entries old new = Unit {0}

-- a refusal at a line
abbrev pub refused_at : ℕ → EditFault → SessionFault
refused_at line Memory = session_fault.Memory
refused_at line (Place count) = session_fault.Edit line (Place count)
refused_at line Before = session_fault.Edit line Before
refused_at line TooLong = session_fault.Edit line TooLong
