use Rattle.dsda_cli.proofs.JudgingLemmas.{large_takes}
use Rattle.dsda_cli.proofs.work.judge.Goals as goal

pub returns-in-Some : goal.returns-in-Some
returns-in-Some g c = large_takes c.args.command _ _ c.in-Some.word c.args.steps.now.tics (rw (c.inputs_of.ensures, c.deref.ensures.value) at c.in-Some.ensures)
