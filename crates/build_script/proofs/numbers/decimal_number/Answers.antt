use Rattle.std.proofs.Common.{◌≡◌, ◌≤◌, ◌∙◌, sym, true, length}
use Rattle.std.specs.List.{list_all}
use Rattle.std.specs.Char.{is_ascii_digit}
use Rattle.build_script.proofs.NumberLemmas.{decimal_ascii, parsed_decimal}
use Rattle.build_script.proofs.numbers.decimal_number.Goals as goal

pub returns-in_default : goal.returns-in_default
returns-in_default c =
    let digits : list_all is_ascii_digit c.args.word.now ≡ true = sym c.are_digits.ensures ∙ c.if-not-are_digits.false in
    absurd (c.in_default.ensures.cases.0 (decimal_ascii c.args.word.now digits))

pub returns : goal.returns
returns c =
    let digits : list_all is_ascii_digit c.args.word.now ≡ true = sym c.are_digits.ensures ∙ c.if-not-are_digits.false in
    c.ok.ensures.value ∙ parsed_decimal c.args.digits c.args.word.now c.parse.result (rw c.in-Ok.ensures.cases.0 at c.parse.ensures.value.0) c.requires digits c.if-word-digits.false
