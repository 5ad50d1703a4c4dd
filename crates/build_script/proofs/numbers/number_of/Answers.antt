use Rattle.std.proofs.Common.{◌≡◌, ◌≤◌, ◌∙◌, sym, true, length}
use Rattle.std.specs.List.{list_all}
use Rattle.std.specs.Char.{is_ascii_digit}
use Rattle.build_script.specs.Numbers.{digits_in}
use Rattle.build_script.proofs.NumberLemmas.{number_ascii, parsed}
use Rattle.build_script.proofs.numbers.number_of.Goals as goal

pub returns-in_default : goal.returns-in_default
returns-in_default c =
    let digits : list_all is_ascii_digit (digits_in c.args.word.now) ≡ true = rw c.digits_in-digits.ensures at (sym c.are_digits.ensures ∙ c.if-not-are_digits.false) in
    absurd (c.in_default.ensures.cases.0 (number_ascii c.args.word.now digits))

pub returns : goal.returns
returns c =
    let digits : list_all is_ascii_digit (digits_in c.args.word.now) ≡ true = rw c.digits_in-digits.ensures at (sym c.are_digits.ensures ∙ c.if-not-are_digits.false) in
    let few : length (digits_in c.args.word.now) ≤ 18 = rw c.digits_in-digits.ensures at c.if-digits-gt-MOST_DIGITS.false in
    c.ok.ensures.value ∙ parsed c.args.word.now c.parse.result (rw c.in-Ok.ensures.cases.0 at c.parse.ensures.value.0) digits few
