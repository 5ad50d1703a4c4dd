-- What `parse` gives for a word that a script spells a number by.
use Rattle.std.proofs.Common.{◌≡◌, ◌≢◌, ℕ, ◌^◌, ◌<◌, ◌≤◌, Bool, true, false, cond, ◌&&◌, List, [], ◌∷◌, length, drop, get_or, refl, ap, arith, nat_le, Some, None, Result, Ok, Err, ◌⊎◌, inl, inr, ℤ, pos, neg_ℤ, if◌then◌else◌, w64}
use Rattle.std.specs.Prelude.{◌==◌}
use Rattle.std.specs.List.{list_all}
use Rattle.std.specs.Char.{is_ascii_digit}
use Rattle.std.specs.Result.{OkIff, result_ok}
use Rattle.std.specs.Str.{IsAscii, IsUtf8, all_ascii_digits}
use Rattle.std.specs.Str.Parse.{ParsesSigned, ParsesUnsigned, starts_with_minus, digits_value}
use Rattle.std.proofs.lemmas.Bool.{le-leb, lt-leb, eqb-false}
use Rattle.std.proofs.lemmas.Bool.Decides.{nat_tests}
use Rattle.std.proofs.lemmas.Str.{IsUtf8-from_ascii}
use Rattle.std.proofs.lemmas.Str.Ascii.{IsAscii-nil, IsAscii-cons}
use Rattle.std.proofs.lemmas.Str.Parse.{IsNumeralModel, numerals_by_value, tells_all_ascii_digits, parse_signed_minus, parse_signed_plain, parse_plain, digits_value_short}
use Rattle.build_script.specs.declared.numbers.Bounds.{Bounds}
use Rattle.build_script.specs.declared.fault.Kind.TheVariants.{Number}
use Rattle.build_script.specs.Numbers.{digits_in, in_bounds, is_number, is_decimal, number_of, number_within}

tested : (b : Bool) → (b ≡ true) ⊎ (b ≡ false)
tested true = inl refl
tested false = inr refl

both : (a b : Bool) → (a && b) ≡ true → (a ≡ true) × (b ≡ true)
both true b e = (refl, e)
both false b e = cc

digit_below : (byte : ℕ) → is_ascii_digit byte ≡ true → byte < 128
digit_below byte e = grind (arith, nat_tests)

digit_no_sign : (byte : ℕ) → is_ascii_digit byte ≡ true → (byte ≢ 43) × (byte ≢ 45)
digit_no_sign byte e = grind (arith, nat_tests)

ascii_digits : (bytes : List ℕ) → list_all is_ascii_digit bytes ≡ true → IsAscii bytes
ascii_digits [] e = IsAscii-nil
ascii_digits (byte ∷ bytes) e =
    let h : (is_ascii_digit byte ≡ true) × (list_all is_ascii_digit bytes ≡ true) = both (is_ascii_digit byte) (list_all is_ascii_digit bytes) e in
    IsAscii-cons byte bytes (digit_below byte h.0) (ascii_digits bytes h.1)

all_digits : (bytes : List ℕ) → list_all is_ascii_digit bytes ≡ true → all_ascii_digits bytes ≡ true
all_digits [] e = refl
all_digits (byte ∷ bytes) e =
    let h : (is_ascii_digit byte ≡ true) × (list_all is_ascii_digit bytes ≡ true) = both (is_ascii_digit byte) (list_all is_ascii_digit bytes) e in
    rw (h.0, all_digits bytes h.1) refl

signed_ascii : (byte : ℕ) (bytes : List ℕ) (minus : Bool) → (byte == 45) ≡ minus → list_all is_ascii_digit (cond minus bytes (byte ∷ bytes)) ≡ true → IsAscii (byte ∷ bytes)
signed_ascii byte bytes true sign e = IsAscii-cons byte bytes (grind (arith, nat_tests)) (ascii_digits bytes e)
signed_ascii byte bytes false sign e = ascii_digits (byte ∷ bytes) e

-- a minus or none, and digits, is text
pub number_ascii : (word : List ℕ) → list_all is_ascii_digit (digits_in word) ≡ true → IsUtf8 word
number_ascii [] e = IsUtf8-from_ascii [] IsAscii-nil
number_ascii (byte ∷ bytes) e = IsUtf8-from_ascii (byte ∷ bytes) (signed_ascii byte bytes (byte == 45) refl e)

numerals : IsNumeralModel (λ digits. all_ascii_digits digits ≡ true) (digits_value 10)
numerals = numerals_by_value _ tells_all_ascii_digits

no_plus : (word : List ℕ) → list_all is_ascii_digit word ≡ true → get_or word 0 0 ≢ 43
no_plus [] e = λ h. grind arith
no_plus (byte ∷ bytes) e = (digit_no_sign byte (both (is_ascii_digit byte) (list_all is_ascii_digit bytes) e).0).0

-- 18 digits fit
short : (digits : List ℕ) → list_all is_ascii_digit digits ≡ true → length digits ≤ 18 → digits_value 10 digits < 10 ^ 18
short digits e few = digits_value_short numerals digits 18 (all_digits digits e) few

-- what `parse` gives, and so what a word spells
spelled : {E : Type 0} (digits : List ℕ) (value : ℤ) (r : Result ℤ E) → list_all is_ascii_digit digits ≡ true → length digits ≤ 18 → OkIff r (0 < length digits) value
    → result_ok r ≡ (if nat_le 1 (length digits) && (nat_le (length digits) 18 && list_all is_ascii_digit digits) then Some value else None)
spelled digits value (Ok x) e few h =
    let some : nat_le 1 (length digits) ≡ true = le-leb 1 (length digits) h.0 in
    let fits : nat_le (length digits) 18 ≡ true = le-leb (length digits) 18 few in
    rw (some, fits, e, h.1) refl
spelled digits value (Err f) e few h =
    let none : nat_le 1 (length digits) ≡ false = lt-leb 1 (length digits) (grind arith) in
    rw none refl

-- the condition that is left of three
middle : {E V : Type 0} (P Q R : Type 0) (value : V) (r : Result V E) → P → R → OkIff r (P × Q × R) value → OkIff r Q value
middle P Q R value (Ok x) p w h = (h.0.1, h.1)
middle P Q R value (Err f) p w h = λ q. h (p, q, w)

parsed_signed : {E : Type 0} (word : List ℕ) (r : Result ℤ E) (minus : Bool) → starts_with_minus word ≡ minus → ParsesSigned w64 10 word r → list_all is_ascii_digit (digits_in word) ≡ true
    → length (digits_in word) ≤ 18 → result_ok r ≡ (if is_number word then Some (number_of word) else None)
parsed_signed word r true sign h e few =
    let digits : digits_in word ≡ drop 1 word = rw sign refl in
    let value : number_of word ≡ neg_ℤ (pos (digits_value 10 (drop 1 word))) = rw sign refl in
    let good : list_all is_ascii_digit (drop 1 word) ≡ true = rw digits at e in
    let some : length (drop 1 word) ≤ 18 = rw digits at few in
    let minus : get_or word 0 0 ≡ 45 = grind (arith, nat_tests) in
    let below : digits_value 10 (drop 1 word) < 10 ^ 18 = short (drop 1 word) good some in
    let room : digits_value 10 (drop 1 word) ≤ 2 ^ 63 = omega arith in
    let read : OkIff r (0 < length (drop 1 word)) (neg_ℤ (pos (digits_value 10 (drop 1 word)))) =
    middle _ _ _ (neg_ℤ (pos (digits_value 10 (drop 1 word)))) r (all_digits (drop 1 word) good) room (parse_signed_minus numerals w64 word r h minus) in
    rw (digits, value) (spelled (drop 1 word) (neg_ℤ (pos (digits_value 10 (drop 1 word)))) r good some read)
parsed_signed word r false sign h e few =
    let digits : digits_in word ≡ word = rw sign refl in
    let value : number_of word ≡ pos (digits_value 10 word) = rw sign refl in
    let good : list_all is_ascii_digit word ≡ true = rw digits at e in
    let some : length word ≤ 18 = rw digits at few in
    let below : digits_value 10 word < 10 ^ 18 = short word good some in
    let room : digits_value 10 word < 2 ^ 63 = omega arith in
    let unsigned : get_or word 0 0 ≢ 45 = λ minus. eqb-false (get_or word 0 0) 45 sign minus in
    let read : OkIff r (0 < length word) (pos (digits_value 10 word)) =
    middle _ _ _ (pos (digits_value 10 word)) r (all_digits word good) room (parse_signed_plain numerals w64 word r h (no_plus word good) unsigned) in
    rw (digits, value) (spelled word (pos (digits_value 10 word)) r good some read)

-- what `parse` gives for a minus or none and 18 digits at most is what the word spells
pub parsed : {E : Type 0} (word : List ℕ) (r : Result ℤ E) → ParsesSigned w64 10 word r → list_all is_ascii_digit (digits_in word) ≡ true → length (digits_in word) ≤ 18
    → result_ok r ≡ (if is_number word then Some (number_of word) else None)
parsed word r h e few = parsed_signed word r (starts_with_minus word) refl h e few

spelled_in : (bounds : Bounds) (good : Bool) (value number : ℤ) → Some number ≡ (if good then Some value else None) → in_bounds bounds number ≡ (if good then in_bounds bounds value else Err Number)
spelled_in bounds true value number e = let same : number ≡ value = cc in ap (in_bounds bounds) same
spelled_in bounds false value number e = absurd (cc)

-- a word that spells a number is judged by that number's bounds
pub number_within-spelled : (bounds : Bounds) (word : List ℕ) (number : ℤ) → Some number ≡ (if is_number word then Some (number_of word) else None) → in_bounds bounds number ≡ number_within bounds word
number_within-spelled bounds word number e = spelled_in bounds (is_number word) (number_of word) number e

-- ---- without a minus

spelled_decimal : {E : Type 0} (digits : ℕ) (word : List ℕ) (value : ℕ) (r : Result ℕ E) → list_all is_ascii_digit word ≡ true → length word ≤ digits → OkIff r (0 < length word) value
    → result_ok r ≡ (if is_decimal digits word then Some value else None)
spelled_decimal digits word value (Ok x) e few h =
    let some : nat_le 1 (length word) ≡ true = le-leb 1 (length word) h.0 in
    let fits : nat_le (length word) digits ≡ true = le-leb (length word) digits few in
    rw (some, fits, e, h.1) refl
spelled_decimal digits word value (Err f) e few h =
    let none : nat_le 1 (length word) ≡ false = lt-leb 1 (length word) (grind arith) in
    rw none refl

-- digits are text
pub decimal_ascii : (word : List ℕ) → list_all is_ascii_digit word ≡ true → IsUtf8 word
decimal_ascii word e = IsUtf8-from_ascii word (ascii_digits word e)

-- what `parse` gives for 18 digits at most is what they spell
pub parsed_decimal : {E : Type 0} (digits : ℕ) (word : List ℕ) (r : Result ℕ E) → ParsesUnsigned 64 10 word r → digits ≤ 18 → list_all is_ascii_digit word ≡ true → length word ≤ digits
    → result_ok r ≡ (if is_decimal digits word then Some (digits_value 10 word) else None)
parsed_decimal digits word r h most good few =
    let below : digits_value 10 word < 10 ^ 18 = short word good (omega (arith, few, most)) in
    let room : digits_value 10 word < 2 ^ 64 = omega (arith, below) in
    let read : OkIff r (0 < length word) (digits_value 10 word) =
    middle _ _ _ (digits_value 10 word) r (all_digits word good) room (parse_plain numerals 64 word r h (no_plus word good)) in
    spelled_decimal digits word (digits_value 10 word) r good few read
