use Rattle.std.proofs.Common.{rules, inl, inr}
use Rattle.dsda_cli.specs.Ending.{moment}
use Rattle.dsda_cli.proofs.EndLemmas.{ends_answers, misused_ends}
use Rattle.dsda_cli.proofs.program.run.Goals as goal

pub returns-in-Some-clause-complete : goal.returns-in-Some-clause-complete
returns-in-Some-clause-complete g c = λ quiet. ends_answers _ _ _ _ (inl quiet) c.carry_out.ensures.ends

pub returns-in-Some-clause-certain : goal.returns-in-Some-clause-certain
returns-in-Some-clause-certain g c = λ sure sure_note. ends_answers _ _ _ _ (inr (sure, sure_note)) c.carry_out.ensures.ends

pub returns-in-None-clause-ends : goal.returns-in-None-clause-ends
returns-in-None-clause-ends g c = misused_ends c.args.words.now (moment g.S.Shelf g.N.Sink c.args.shelf.now c.args.note.now c.args.steps.now.tics) (search rules)
