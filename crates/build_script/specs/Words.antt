-- The words that a script has in fixed places, and what each is.
use Rattle.std.specs.Prelude.{ℕ, List, codes, if◌then◌else◌, Option, Some, None}
use Rattle.std.specs.Str.{bytes_eq}
use Rattle.game_trait.specs.declared.shown.Quantity.TheVariants as quantity
use Rattle.brute_targets.specs.declared.want.Op.{Op}
use Rattle.brute_targets.specs.declared.want.Op.TheVariants as op
use Rattle.build_script.specs.declared.names.Name.{Name}
use Rattle.build_script.specs.declared.names.Name.TheVariants as name
use Rattle.build_script.specs.declared.names.Form.{Form}
use Rattle.build_script.specs.declared.names.Form.TheVariants as form
use Rattle.build_script.specs.declared.names.Inner.{Inner}
use Rattle.build_script.specs.declared.names.Inner.TheVariants as inner
use Rattle.build_script.specs.declared.names.Axis.{Axis}
use Rattle.build_script.specs.declared.names.Axis.TheVariants as axis
use Rattle.build_script.specs.declared.names.Aim.{Aim}
use Rattle.build_script.specs.declared.names.Aim.TheVariants as aim

-- the name of a command
abbrev pub name_of : List ℕ → Option Name
name_of word =
    if bytes_eq word (codes "seek") then Some name.Seek
    else if bytes_eq word (codes "put") then Some name.Put
    else if bytes_eq word (codes "insert") then Some name.Insert
    else if bytes_eq word (codes "delete") then Some name.Delete
    else if bytes_eq word (codes "cut") then Some name.Cut
    else if bytes_eq word (codes "repeat") then Some name.Repeat
    else if bytes_eq word (codes "show") then Some name.Show
    else if bytes_eq word (codes "brute") then Some name.Brute
    else if bytes_eq word (codes "range") then Some name.Range
    else if bytes_eq word (codes "want") then Some name.Want
    else if bytes_eq word (codes "go") then Some name.Go
    else None

-- the name of a command within an open search
abbrev pub inner_of : List ℕ → Option Inner
inner_of word =
    if bytes_eq word (codes "range") then Some inner.Range
    else if bytes_eq word (codes "want") then Some inner.Want
    else if bytes_eq word (codes "go") then Some inner.Go
    else None

-- what is shown beside the player's place
abbrev pub form_of : List ℕ → Option Form
form_of word =
    if bytes_eq word (codes "sector") then Some form.Sector
    else if bytes_eq word (codes "keys") then Some form.Keys
    else if bytes_eq word (codes "health") then Some form.Health
    else None

-- a value of a tic
abbrev pub axis_of : List ℕ → Option Axis
axis_of word =
    if bytes_eq word (codes "forward") then Some axis.Forward
    else if bytes_eq word (codes "side") then Some axis.Side
    else if bytes_eq word (codes "turn") then Some axis.Turn
    else if bytes_eq word (codes "use") then Some axis.Using
    else None

-- what a target asks for
abbrev pub aim_of : List ℕ → Option Aim
aim_of word =
    if bytes_eq word (codes "x") then Some (aim.Reads quantity.X)
    else if bytes_eq word (codes "y") then Some (aim.Reads quantity.Y)
    else if bytes_eq word (codes "z") then Some (aim.Reads quantity.Z)
    else if bytes_eq word (codes "momx") then Some (aim.Reads quantity.MomX)
    else if bytes_eq word (codes "momy") then Some (aim.Reads quantity.MomY)
    else if bytes_eq word (codes "momz") then Some (aim.Reads quantity.MomZ)
    else if bytes_eq word (codes "angle") then Some (aim.Reads quantity.Angle)
    else if bytes_eq word (codes "rng") then Some (aim.Reads quantity.Rng)
    else if bytes_eq word (codes "keys") then Some (aim.Reads quantity.Keys)
    else if bytes_eq word (codes "health") then Some (aim.Reads quantity.Health)
    else if bytes_eq word (codes "armour") then Some (aim.Reads quantity.Armour)
    else if bytes_eq word (codes "line") then Some aim.Line
    else if bytes_eq word (codes "exit") then Some aim.Exit
    else None

-- an operator
abbrev pub op_of : List ℕ → Option Op
op_of word =
    if bytes_eq word (codes "<") then Some op.Less
    else if bytes_eq word (codes "<=") then Some op.LessEqual
    else if bytes_eq word (codes "=") then Some op.Equal
    else if bytes_eq word (codes "!=") then Some op.NotEqual
    else if bytes_eq word (codes ">=") then Some op.GreaterEqual
    else if bytes_eq word (codes ">") then Some op.Greater
    else None
