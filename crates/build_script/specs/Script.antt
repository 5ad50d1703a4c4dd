-- The script of a text: the commands of its lines, or the first fault in them.
use Rattle.std.specs.Prelude.{◌≡◌, ℕ, Bool, List, All, [], ◌∷◌, ◌++◌, length, fold, nat_lt, if◌then◌else◌, Result, Ok, Err, Option, Some, None}
use Rattle.std.specs.List.{enumerate_from}
use Rattle.std.specs.Str.Lines.{lines}
use Rattle.brute_ranges.specs.declared.fault.SpaceFault.{SpaceFault}
use Rattle.brute_ranges.specs.declared.fault.SpaceFault.TheVariants as space_fault
use Rattle.build_script.specs.declared.fault.Kind.{Kind}
use Rattle.build_script.specs.declared.fault.Kind.TheVariants as kind
use Rattle.build_script.specs.declared.fault.ScriptFault.{ScriptFault}
use Rattle.build_script.specs.declared.fault.ScriptFault.TheVariants.{Line, Memory}
use Rattle.build_script.specs.declared.commands.Command.{Command}
use Rattle.build_script.specs.declared.commands.Command.TheVariants.{Go, Want}
use Rattle.build_script.specs.declared.commands.Entry.{Entry}
use Rattle.build_script.specs.declared.judge.Outside.{Outside}
use Rattle.build_script.specs.declared.judge.Outside.TheVariants as out
use Rattle.build_script.specs.declared.within.Inside.{Inside}
use Rattle.build_script.specs.declared.within.Inside.TheVariants as inner
use Rattle.build_script.specs.Opened.{Opened}
use Rattle.build_script.specs.Commands.{outside, HoldsTicOf}
use Rattle.build_script.specs.Searches.{inside, opened, narrowed, with_tics, with_want, most_wants, is_space}
use Rattle.build_script.specs.Text.{words}

-- What was read so far: the search that is open, and the commands.
pub record Reading : Type 0 where
  pub search : Option Opened
  pub entries : List Entry

abbrev pub reading : Option Opened → List Entry → Reading
reading search entries = record { search = search; entries = entries }

-- the commands with one more, of this line
abbrev pub with_entry : List Entry → ℕ → Command → List Entry
with_entry entries line command = entries ++ record { line = line; command = command } ∷ []

-- what a line outside a search makes of the reading
abbrev pub after_outside : Bool → ℕ → List Entry → Result Outside Kind → Result Reading (ℕ × Kind)
after_outside long line entries (Ok out.Nothing) = Ok (reading None entries)
after_outside long line entries (Ok (out.Does command)) = Ok (reading None (with_entry entries line command))
after_outside long line entries (Ok (out.Opens depth)) = Ok (reading (Some (opened line depth long)) entries)
after_outside long line entries (Err fault) = Err (line, fault)

-- the command of a search that is carried out at a line
abbrev pub gone : ℕ → Opened → Result Command (ℕ × Kind)
gone line search = if is_space search.ranges then Ok (Go search.ranges search.wants) else Err (line, kind.Space)

-- with this command the reading goes on outside a search
abbrev pub after_search : ℕ → List Entry → Result Command (ℕ × Kind) → Result Reading (ℕ × Kind)
after_search line entries (Ok command) = Ok (reading None (with_entry entries line command))
after_search line entries (Err fault) = Err fault

-- What a line within a search makes of it. The 17th target and too many sequences are judged last. A target is a command
-- of its line too, so that its name can be judged there.
abbrev pub after_inside : ℕ → List Entry → Opened → Result Inside Kind → Result Reading (ℕ × Kind)
after_inside line entries search (Ok inner.Nothing) = Ok (reading (Some search) entries)
after_inside line entries search (Ok (inner.Narrows tics axis range)) =
    Ok (reading (Some (with_tics search (narrowed tics axis range search.ranges.tics))) entries)
after_inside line entries search (Ok (inner.Adds want)) =
    if nat_lt (length search.wants) most_wants then Ok (reading (Some (with_want search want)) (with_entry entries line (Want want))) else Err (line, kind.Range)
after_inside line entries search (Ok inner.Goes) = after_search line entries (gone line search)
after_inside line entries search (Err fault) = Err (line, fault)

-- one line more
abbrev pub after_line : Bool → Bool → Reading → ℕ × List ℕ → Option Opened → Result Reading (ℕ × Kind)
after_line worlds long read numbered None = after_outside long numbered.0 read.entries (outside worlds long (words numbered.1))
after_line worlds long read numbered (Some search) =
    after_inside numbered.0 read.entries search (inside (length search.ranges.tics) search.ranges.long (words numbered.1))

-- none is read after the first faulty one
abbrev pub next_line : Bool → Bool → Result Reading (ℕ × Kind) → ℕ × List ℕ → Result Reading (ℕ × Kind)
next_line worlds long (Ok read) numbered = after_line worlds long read numbered read.search
next_line worlds long (Err fault) numbered = Err fault

-- no search may be open at the end
abbrev pub closed : Option Opened → List Entry → Result (List Entry) (ℕ × Kind)
closed None entries = Ok entries
closed (Some search) entries = Err (search.line, kind.Missing)

abbrev pub ended : Result Reading (ℕ × Kind) → Result (List Entry) (ℕ × Kind)
ended (Ok read) = closed read.search read.entries
ended (Err fault) = Err fault

-- the script of lines that have their numbers, after what was read before them
abbrev pub script_from : Bool → Bool → Result Reading (ℕ × Kind) → List (ℕ × List ℕ) → Result (List Entry) (ℕ × Kind)
script_from worlds long read numbered = ended (fold (next_line worlds long) read numbered)

-- The script of a text, with or without the words of a session that has worlds, for a long or a short demo. A line ends
-- at an LF, or at the end of the text, and loses the one CR right before its LF; so an LF at the end of the text begins
-- no further line. All lines are counted, from 1.
abbrev pub script_of : Bool → Bool → List ℕ → Result (List Entry) (ℕ × Kind)
script_of worlds long bytes = script_from worlds long (Ok (reading None [])) (enumerate_from 1 (lines bytes))

-- a demo of this version holds each tic that the commands add
abbrev pub HoldsTics : Bool → List Entry → Type 0
HoldsTics long entries = All (λ entry. HoldsTicOf long entry.command) entries

-- a search is one for a demo of this version, where one is open
abbrev pub IsFor : Bool → Option Opened → Type 0
IsFor long None = Unit {0}
IsFor long (Some search) = search.ranges.long ≡ long

-- the search that is open after a line, and the commands, are what the line makes of the reading, unless memory ran out
abbrev pub Follows : Result (Option Opened) ScriptFault → List Entry → Result Reading (ℕ × Kind) → Type 0
Follows (Ok search) entries read = read ≡ Ok (reading search entries)
Follows (Err (Line line kind)) entries read = read ≡ Err (line, kind)
Follows (Err Memory) entries read = Unit {0}

-- what is answered is what the definition says, unless memory ran out
abbrev pub Gives : {A : Type 0} → Result A ScriptFault → Result A (ℕ × Kind) → Type 0
Gives (Ok x) said = said ≡ Ok x
Gives (Err (Line line kind)) said = said ≡ Err (line, kind)
Gives (Err Memory) said = Unit {0}

-- the fault of a line whose ranges, each of which a tic may have, make no space
abbrev pub space_refusal : ℕ → SpaceFault → ScriptFault
space_refusal line space_fault.Memory = Memory
space_refusal line space_fault.TooMany = Line line kind.Space
space_refusal line (space_fault.Depth depth) = Line line kind.Space
space_refusal line (space_fault.Bounds tic) = Line line kind.Space
space_refusal line (space_fault.EmptyRange tic) = Line line kind.Space
