use Rattle.std.proofs.Common.{◌≡◌, ◌∙◌, sym, rules, not, Some, None, [], ◌-◌, length, take, drop}
use Rattle.std.specs.List.{position, position_or_len}
use Rattle.std.proofs.lemmas.List.{take_rest}
use Rattle.build_script.specs.Text.{is_blank}
use Rattle.build_script.proofs.TextLemmas.{no_word, first_word}
use Rattle.build_script.proofs.text.WordsIterator.next.Goals as goal

pub returns-in_err-text-clause-steps : goal.returns-in_err-text-clause-steps
returns-in_err-text-clause-steps c =
    let none : position (λ byte. not (is_blank byte)) c.self.inside.line.now ≡ None = sym c.word_start.ensures ∙ c.in_err-text.was in
    let nothing : c.args.self.now ≡ [] = sym c.self.view_is ∙ no_word c.self.inside.line.now none in
    rw c.from_residual.ensures (nothing, nothing)

pub returns-clause-steps : goal.returns-clause-steps
returns-clause-steps c =
    let line = c.self.inside.line.now in
    let start = c.in_ok-text.field-0 in
    let found : position (λ byte. not (is_blank byte)) line ≡ Some start = sym c.word_start.ensures ∙ c.in_ok-text.was in
    let text : take (length line - start) (drop start line) ≡ drop start line = take_rest line start in
    let count : c.word_len.result ≡ position_or_len is_blank (drop start line) = rw text at c.word_len.ensures.value in
    let front : c.split_at.result.0.now ≡ take (position_or_len is_blank (drop start line)) (drop start line) = rw (count, text) at c.split_at.ensures.front in
    let back : c.split_at.result.1.now ≡ drop (position_or_len is_blank (drop start line)) (drop start line) = rw (count, text) at c.split_at.ensures.back in
    sym c.self.view_is ∙ rw (front, back) (first_word line start found)

pub returns-clause-goes : goal.returns-clause-goes
returns-clause-goes c = let steps = returns-clause-steps c in search rules
