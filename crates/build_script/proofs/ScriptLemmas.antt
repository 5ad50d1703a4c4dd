-- How a text is refused by its first faulty line.
use Rattle.std.proofs.Common.{Bool, ◌≡◌, ◌∙◌, sym, subst, ap, refl, ℕ, List, [], ◌∷◌, Result, Ok, Err}
use Rattle.std.specs.Result.{IsErrAnd}
use Rattle.build_script.specs.declared.fault.Kind.{Kind}
use Rattle.build_script.specs.declared.fault.ScriptFault.{ScriptFault}
use Rattle.build_script.specs.declared.fault.ScriptFault.TheVariants.{Line, Memory}
use Rattle.build_script.specs.declared.commands.Entry.{Entry}
use Rattle.build_script.specs.Script.{Reading, after_line, script_from, Gives, Follows}

-- no line is read after the first faulty one
refused : (worlds long : Bool) (fault : ℕ × Kind) (numbered : List (ℕ × List ℕ)) → script_from worlds long (Err fault) numbered ≡ Err fault
refused worlds long fault [] = refl
refused worlds long fault (line ∷ rest) = refused worlds long fault rest

-- the refusal of a line is the text's
stops : (worlds long : Bool) (read : Reading) (numbered : ℕ × List ℕ) (rest : List (ℕ × List ℕ)) (entries : List Entry) (all : Result (List Entry) (ℕ × Kind)) (fault : ScriptFault)
    → script_from worlds long (Ok read) (numbered ∷ rest) ≡ all → Follows (Err fault) entries (after_line worlds long read numbered read.search) → Gives {A = List Entry} (Err fault) all
stops worlds long read numbered rest entries all Memory so_far is = tt
stops worlds long read numbered rest entries all (Line line kind) so_far is =
    sym so_far ∙ ap (λ next. script_from worlds long next rest) is ∙ refused worlds long (line, kind) rest

pub stopped : (worlds long : Bool) (read : Reading) (numbered : ℕ × List ℕ) (rest : List (ℕ × List ℕ)) (entries : List Entry) (all : Result (List Entry) (ℕ × Kind)) (fault : ScriptFault) (given : Result (List Entry) ScriptFault)
    → script_from worlds long (Ok read) (numbered ∷ rest) ≡ all → Follows (Err fault) entries (after_line worlds long read numbered read.search)
    → IsErrAnd given (λ (passed_on : ScriptFault). passed_on ≡ fault) → Gives given all
stopped worlds long read numbered rest entries all fault (Ok value) so_far is passed_on = absurd passed_on
stopped worlds long read numbered rest entries all fault (Err other) so_far is passed_on =
    subst (λ (f : ScriptFault). Gives {A = List Entry} (Err f) all) (sym passed_on) (stops worlds long read numbered rest entries all fault so_far is)
