-- The numbers of a script: how a word spells one, and the bounds that each has.
use Rattle.std.specs.Prelude.{ℕ, ◌-◌, ℤ, pos, neg_ℤ, ◌*ℤ◌, Bool, ◌&&◌, ◌||◌, List, length, take, drop, codes, nat_eq, nat_le, int_lt, if◌then◌else◌, Result, Ok, Err}
use Rattle.std.specs.List.{list_all, ends_with}
use Rattle.std.specs.Char.{is_ascii_digit}
use Rattle.std.specs.Str.Parse.{starts_with_minus, digits_value}
use Rattle.build_script.specs.declared.numbers.Bounds.{Bounds}
use Rattle.build_script.specs.declared.fault.Kind.{Kind}
use Rattle.build_script.specs.declared.fault.Kind.TheVariants.{Number, Range}

-- what follows the minus that a word may begin with
abbrev pub digits_in : List ℕ → List ℕ
digits_in word = if starts_with_minus word then drop 1 word else word

-- a number is spelled by a minus or none, and 1 to 18 decimal digits
abbrev pub is_number : List ℕ → Bool
is_number word = nat_le 1 (length (digits_in word)) && (nat_le (length (digits_in word)) 18 && list_all is_ascii_digit (digits_in word))

-- a word is decimal digits: at least one, and at most so many
abbrev pub is_decimal : ℕ → List ℕ → Bool
is_decimal digits word = nat_le 1 (length word) && (nat_le (length word) digits && list_all is_ascii_digit word)

-- the number that a word spells
abbrev pub number_of : List ℕ → ℤ
number_of word = if starts_with_minus word then neg_ℤ (pos (digits_value 10 (drop 1 word))) else pos (digits_value 10 word)

-- a number within its bounds
abbrev pub in_bounds : Bounds → ℤ → Result ℤ Kind
in_bounds bounds number = if int_lt number bounds.least || int_lt bounds.greatest number then Err Range else Ok number

-- A word is judged whole: first its spelling, then its bounds.
abbrev pub number_within : Bounds → List ℕ → Result ℤ Kind
number_within bounds word = if is_number word then in_bounds bounds (number_of word) else Err Number

-- ---- the value of a target

-- the last byte of a word is a `u`
abbrev pub ends_in_u : List ℕ → Bool
ends_in_u word = ends_with nat_eq word (codes "u")

-- a number of map units: each is 65536
abbrev pub units_within : Bounds → List ℕ → Result ℤ Kind
units_within bounds word = if is_number word then in_bounds bounds (number_of word *ℤ pos 65536) else Err Number

-- a number, or one of map units where a `u` follows it
abbrev pub value_within : Bounds → List ℕ → Result ℤ Kind
value_within bounds word = if ends_in_u word then units_within bounds (take (length word - 1) word) else number_within bounds word
