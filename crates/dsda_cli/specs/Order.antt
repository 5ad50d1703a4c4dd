-- What an order file says: the hands that take their turns, one after the other.
use Rattle.std.specs.Prelude.{◌≡◌, ℕ, ◌-◌, Bool, ◌&&◌, ◌||◌, not, nat_eq, nat_le, Option, Some, None, List, length, map, filter, find, take, drop, unwrap_or, slice_get, Result, Ok, Err, Vec}
use Rattle.std.specs.Global.{Global}
use Rattle.std.specs.List.{range_with_len, position_or_len}
use Rattle.std.specs.Str.Parse.{digits_value}
use Rattle.build_script.specs.Numbers.{is_decimal}
use Rattle.dsda_cli.specs.declared.order.OrderFault.{OrderFault}
use Rattle.dsda_cli.specs.declared.order.OrderFault.TheVariants as order_fault

-- space, tab, LF and CR stand between words
abbrev pub is_blank : ℕ → Bool
is_blank byte = nat_eq byte 32 || (nat_eq byte 9 || (nat_eq byte 10 || nat_eq byte 13))

-- the byte at a place; a blank past the end
abbrev pub byte_at : List ℕ → ℕ → ℕ
byte_at bytes place = unwrap_or (slice_get bytes place) 32

-- a word begins where a byte that is no blank follows a blank, or the file's start
abbrev pub begins_word : List ℕ → ℕ → Bool
begins_word bytes place = not (is_blank (byte_at bytes place)) && (nat_eq place 0 || is_blank (byte_at bytes (place - 1)))

-- the places where words begin, rising
abbrev pub beginnings : List ℕ → List ℕ
beginnings bytes = filter (begins_word bytes) (range_with_len 0 (length bytes))

-- the word that begins at a place: the bytes up to the first blank
abbrev pub word_from : List ℕ → ℕ → List ℕ
word_from bytes place = take (position_or_len is_blank (drop place bytes)) (drop place bytes)

-- the hand that it names
abbrev pub hand_from : List ℕ → ℕ → ℕ
hand_from bytes place = digits_value 10 (word_from bytes place)

-- it names one: a number of 1 or 2 digits below 64
abbrev pub names_hand : List ℕ → ℕ → Bool
names_hand bytes place = is_decimal 2 (word_from bytes place) && nat_le (hand_from bytes place) 63

abbrev pub order_unless : List ℕ → Option ℕ → Result (List ℕ) ℕ
order_unless bytes (Some place) = Err place
order_unless bytes None = Ok (map (hand_from bytes) (beginnings bytes))

-- the hands that the words name, or the place where the first word that names none begins
abbrev pub order_of : List ℕ → Result (List ℕ) ℕ
order_of bytes = order_unless bytes (find (λ place. not (names_hand bytes place)) (beginnings bytes))

-- what reading the file answers is that, unless there was no memory
abbrev pub IsOrder : Result (Vec ℕ Global) OrderFault → List ℕ → Type 0
IsOrder (Ok hands) bytes = order_of bytes ≡ Ok hands.items
IsOrder (Err (order_fault.At place)) bytes = order_of bytes ≡ Err place
IsOrder (Err order_fault.Memory) bytes = Unit {0}
