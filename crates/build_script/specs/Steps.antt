-- How the words of a line are judged one after the other, and the bounds that each number has.
use Rattle.std.specs.Prelude.{ℕ, ℤ, pos, negsuc, ◌≡◌, Bool, List, [], ◌∷◌, Result, Ok, Err, Option, Some, None}
use Rattle.lmp_codec.specs.Turns.{least_turn, greatest_turn}
use Rattle.build_script.specs.declared.numbers.Bounds.{Bounds}
use Rattle.build_script.specs.declared.fault.Kind.{Kind}
use Rattle.build_script.specs.declared.fault.Kind.TheVariants.{Word, Missing}
use Rattle.build_script.specs.Numbers.{number_within}

-- Words are judged from left to right: what follows is judged only where this one has no fault.
infixl 10 ◌>>=◌
abbrev pub ◌>>=◌ : {A B : Type 0} → Result A Kind → (A → Result B Kind) → Result B Kind
(Ok x) >>= next = next x
(Err kind) >>= next = Err kind

-- the number that the next word spells within its bounds, and the words after it
abbrev pub next_number : Bounds → List (List ℕ) → Result (ℤ × List (List ℕ)) Kind
next_number bounds [] = Err Missing
next_number bounds (word ∷ rest) = number_within bounds word >>= λ number. Ok (number, rest)

-- what a word is, if it is known
abbrev pub known : {A : Type 0} → Option A → List (List ℕ) → Result (A × List (List ℕ)) Kind
known None rest = Err Word
known (Some x) rest = Ok (x, rest)

-- what the next word is by a table of words, and the words after it
abbrev pub next_known : {A : Type 0} → (List ℕ → Option A) → List (List ℕ) → Result (A × List (List ℕ)) Kind
next_known table [] = Err Missing
next_known table (word ∷ rest) = known (table word) rest

-- what a step of the reading gave, and the words that it left, are what these say
abbrev pub Reads : {A : Type 0} → Result A Kind → List (List ℕ) → Result (A × List (List ℕ)) Kind → Type 0
Reads (Ok x) left read = read ≡ Ok (x, left)
Reads (Err kind) left read = read ≡ Err kind

-- nothing may follow the last word that a command needs
abbrev pub complete : {A : Type 0} → A → List (List ℕ) → Result A Kind
complete x [] = Ok x
complete x (word ∷ rest) = Err Word

-- ---- the bounds of each number (`negsuc n` is -1 - n)

-- a place for the cursor: 0 to 1,000,000
abbrev pub place_bounds : Bounds
place_bounds = record { least = pos 0; greatest = pos 1000000 }

-- -127 to 127
abbrev pub forward_bounds : Bounds
forward_bounds = record { least = negsuc 126; greatest = pos 127 }

-- -128 to 127
abbrev pub side_bounds : Bounds
side_bounds = record { least = negsuc 127; greatest = pos 127 }

-- -128 to 255, and in a long demo -32768 to 65535
abbrev pub turn_bounds : Bool → Bounds
turn_bounds long = record { least = least_turn long; greatest = greatest_turn long }

-- 0 to 255
abbrev pub buttons_bounds : Bounds
buttons_bounds = record { least = pos 0; greatest = pos 255 }

-- 0 or 1: the use button is held or not
abbrev pub use_bounds : Bounds
use_bounds = record { least = pos 0; greatest = pos 1 }

-- how many times a tic is put: 1 to 1,000,000
abbrev pub count_bounds : Bounds
count_bounds = record { least = pos 1; greatest = pos 1000000 }

-- the number of a sector or a line: 0 to 65535
abbrev pub place_number_bounds : Bounds
place_number_bounds = record { least = pos 0; greatest = pos 65535 }

-- how many tics a search has: 1 to 35
abbrev pub depth_bounds : Bounds
depth_bounds = record { least = pos 1; greatest = pos 35 }

-- one of so many tics, counted from 1
abbrev pub tic_bounds : ℕ → Bounds
tic_bounds depth = record { least = pos 1; greatest = pos depth }

-- the value of a target: -2^31 to 2^32 - 1
abbrev pub value_bounds : Bounds
value_bounds = record { least = negsuc 2147483647; greatest = pos 4294967295 }
