use Rattle.std.proofs.Common.{◌∙◌, ◌≤◌, ◌<◌, length, sym, subst, inl, inr}
use Rattle.std.proofs.lemmas.Bool.{false≢true, cases_lt}
use Rattle.dsda_cli.proofs.TextLemmas.{text_at-set_other, text_at_past}
use Rattle.dsda_cli.proofs.work.take_text.Goals as goal

pub returns-in-Some-clause-others : goal.returns-in-Some-clause-others
returns-in-Some-clause-others c = λ other apart. text_at-set_other c.args.texts.now.items c.args.place _ other apart

pub returns-in-None-clause-text : goal.returns-in-None-clause-text
returns-in-None-clause-text c =
    let texts = c.args.texts.now in
    let past : length texts.items ≤ c.args.place = elim (cases_lt c.args.place (length texts.items)) [
      | inl lt ↦ absurd (false≢true (c.in-None.ensures.variant.1 (subst (λ len. c.args.place < len) (sym texts.ok.0) lt)))
      | inr le ↦ le
    ] in
    c.new-in-None.ensures.items ∙ sym (text_at_past texts.items c.args.place past)
