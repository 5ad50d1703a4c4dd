use Rattle.std.proofs.Common.{◌∙◌, sym, rules, arith}
use Rattle.build_script.proofs.TextLemmas.{first_line, last_line}
use Rattle.build_script.proofs.text.LinesIterator.next.Goals as goal

pub returns-in-Some-clause-steps : goal.returns-in-Some-clause-steps
returns-in-Some-clause-steps c =
    rw (← c.self.view_is, c.without_carriage_return.ensures) (first_line c.self.inside.text.now c.in-Some.end (sym c.first_line_feed.ensures ∙ c.in-Some.is))

pub returns-in-Some-clause-goes : goal.returns-in-Some-clause-goes
returns-in-Some-clause-goes c = let steps = returns-in-Some-clause-steps c in search rules

pub returns-in-None-clause-steps : goal.returns-in-None-clause-steps
returns-in-None-clause-steps c =
    rw (← c.self.view_is) (last_line c.self.inside.text.now (sym c.first_line_feed.ensures ∙ c.in-None.is) (grind (arith, c.is_empty.ensures, c.if-is_empty.false)))

pub returns-in-None-clause-goes : goal.returns-in-None-clause-goes
returns-in-None-clause-goes c = let steps = returns-in-None-clause-steps c in search rules
