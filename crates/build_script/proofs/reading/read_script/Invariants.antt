use Rattle.std.proofs.Common.{Bool, ℕ, List, ◌≡◌, ◌+◌, Ok, Option}
use Rattle.std.specs.List.{enumerate_from}
use Rattle.build_script.specs.declared.commands.Entry.{Entry}
use Rattle.build_script.specs.Opened.{Opened}
use Rattle.build_script.specs.Script.{script_of, script_from, reading, HoldsTics, IsFor}
use Rattle.build_script.proofs.reading.read_script.Given as goal

-- the lines that are left, after what was read, say what all lines say, and the demo holds the tics so far
pub record SoFar (worlds long : Bool) (search : Option Opened) (entries : List Entry) (number : ℕ) (rest : List (List ℕ)) (bytes : List ℕ) : Type 0 where
  pub same : script_from worlds long (Ok (reading search entries)) (enumerate_from (number + 1) rest) ≡ script_of worlds long bytes
  pub held : HoldsTics long entries
  pub for_it : IsFor long search

abbrev pub invariant-loop-line : goal.invariant-loop-line
invariant-loop-line l = SoFar l.worlds l.long l.search l.entries.items l.number l.line-iterator l.fn.bytes
