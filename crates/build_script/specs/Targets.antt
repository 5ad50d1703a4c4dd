-- The targets of a search, as a script writes them.
use Rattle.std.specs.Prelude.{ℕ, ℤ, List, [], ◌∷◌, Result, Ok, Err}
use Rattle.game_trait.specs.declared.shown.Quantity.{Quantity}
use Rattle.brute_targets.specs.declared.want.Want.{Want}
use Rattle.brute_targets.specs.declared.want.Want.TheVariants.{Reading, Line, Exit}
use Rattle.build_script.specs.declared.fault.Kind.{Kind}
use Rattle.build_script.specs.declared.fault.Kind.TheVariants.{Missing}
use Rattle.build_script.specs.declared.names.Aim.{Aim}
use Rattle.build_script.specs.declared.names.Aim.TheVariants as aim
use Rattle.build_script.specs.Words.{aim_of, op_of}
use Rattle.build_script.specs.Numbers.{value_within}
use Rattle.build_script.specs.Steps.{◌>>=◌, next_known, complete, value_bounds}
use Rattle.build_script.specs.Commands.{number_in}

-- the value that the next word spells, and the words after it
abbrev pub next_value : List (List ℕ) → Result (ℤ × List (List ℕ)) Kind
next_value [] = Err Missing
next_value (word ∷ rest) = value_within value_bounds word >>= λ value. Ok (value, rest)

-- a reading of this quantity: an operator and a value
abbrev pub reading_in : Quantity → List (List ℕ) → Result Want Kind
reading_in quantity words = do
  op ← next_known op_of words
  value ← next_value op.1
  complete (Reading quantity op.0 value.0) value.1

-- what a target of this aim says with the words after it
abbrev pub aimed : Aim → List (List ℕ) → Result Want Kind
aimed (aim.Reads quantity) words = reading_in quantity words
aimed aim.Line words = number_in words >>= (λ line. Ok (Line line))
aimed aim.Exit words = complete Exit words

abbrev pub want_in : List (List ℕ) → Result Want Kind
want_in words = do
  aim ← next_known aim_of words
  aimed aim.0 aim.1
