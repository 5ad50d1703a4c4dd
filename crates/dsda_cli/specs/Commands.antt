-- The command lines that have a meaning, one row a command in each table.
use Rattle.std.specs.Prelude.{ℕ, ◌≤◌, not, ◌==◌, ◌&&◌, nat_le, Option, Some, None, option_map, List, [], ◌∷◌, length, slice_get, unwrap_or, codes, if◌then◌else◌}
use Rattle.std.specs.Str.{bytes_eq}
use Rattle.std.specs.Str.Parse.{digits_value}
use Rattle.build_script.specs.Numbers.{is_decimal}
use Rattle.dsda_cli.specs.declared.command.Command.{Command}
use Rattle.dsda_cli.specs.declared.command.Command.TheVariants.{Edit, Level, Build, Sim, Gen}
use Rattle.dsda_cli.specs.declared.command.Input.{Input}

-- the word at a place, counted from 0; no text where there is no such word
abbrev pub word_at : List (List ℕ) → ℕ → List ℕ
word_at words place = unwrap_or (slice_get words place) []

-- the first byte of a word, 0 where there is none
abbrev pub first_byte : List ℕ → ℕ
first_byte word = unwrap_or (slice_get word 0) 0

-- how many workers a word asks for: 1 to 64, in decimal digits without a leading zero
abbrev pub worker_count : List ℕ → Option ℕ
worker_count word =
    if is_decimal 2 word && (not (first_byte word == 48) && (nat_le 1 (digits_value 10 word) && nat_le (digits_value 10 word) 64)) then Some (digits_value 10 word)
    else None

-- how many workers the words of `build` ask for: those behind `--workers`, and 4 where no word follows the names
abbrev pub workers_of : List (List ℕ) → Option ℕ
workers_of words =
    if length words == 6 then Some 4
    else if (length words == 8) && bytes_eq (word_at words 6) (codes "--workers") then worker_count (word_at words 7)
    else None

-- the number of a gallery: 1 to 10 decimal digits, of a number below 2^32
abbrev pub gallery_number : List ℕ → Option ℕ
gallery_number word = if is_decimal 10 word && nat_le (digits_value 10 word) 4294967295 then Some (digits_value 10 word) else None

-- the command that the words ask for, by the first of them and by their number
abbrev pub command_of : List (List ℕ) → Option Command
command_of words =
    if bytes_eq (word_at words 0) (codes "edit") && (length words == 4) then Some Edit
    else if bytes_eq (word_at words 0) (codes "level") && (length words == 4) then Some Level
    else if bytes_eq (word_at words 0) (codes "build") then option_map Build (workers_of words)
    else if bytes_eq (word_at words 0) (codes "sim") && (length words == 7) then Some Sim
    else if bytes_eq (word_at words 0) (codes "gen") && (length words == 2) then option_map Gen (gallery_number (word_at words 1))
    else None

-- a `build` has 1 to 64 workers
abbrev pub HasWorkers : Command → Type 0
HasWorkers (Build workers) = (1 ≤ workers) × (workers ≤ 64)
HasWorkers command = Unit {0}

-- the most bytes that each kind of input may have
abbrev pub wad_limit : ℕ
wad_limit = 268435456

abbrev pub tables_limit : ℕ
tables_limit = 131072

abbrev pub demo_limit : ℕ
demo_limit = 16777216

-- a script, and an order file
abbrev pub script_limit : ℕ
script_limit = 1048576

-- the inputs of what is played on a level: the word that names each, and its limit
abbrev pub wad_input : Input
wad_input = record { word = 1; limit = wad_limit }

abbrev pub tables_input : Input
tables_input = record { word = 2; limit = tables_limit }

abbrev pub demo_input : Input
demo_input = record { word = 3; limit = demo_limit }

abbrev pub script_input : Input
script_input = record { word = 4; limit = script_limit }

abbrev pub order_input : Input
order_input = record { word = 6; limit = script_limit }

-- the inputs of a command, in the order of the words that name them
abbrev pub inputs_of : Command → List Input
inputs_of Edit = record { word = 1; limit = demo_limit } ∷ record { word = 2; limit = script_limit } ∷ []
inputs_of Level = wad_input ∷ tables_input ∷ demo_input ∷ []
inputs_of (Build workers) = wad_input ∷ tables_input ∷ demo_input ∷ script_input ∷ []
inputs_of Sim = wad_input ∷ tables_input ∷ demo_input ∷ script_input ∷ order_input ∷ []
inputs_of (Gen number) = []

-- the word that names the file which a command puts, if it puts one
abbrev pub out_of : Command → Option ℕ
out_of Edit = Some 3
out_of Level = None
out_of (Build workers) = Some 5
out_of Sim = Some 5
out_of (Gen number) = None

-- the name of that file
abbrev pub out_name : List (List ℕ) → Command → Option (List ℕ)
out_name words command = option_map (word_at words) (out_of command)
