use Rattle.dsda_cli.proofs.OneAnswer.{one_meaning}
use Rattle.dsda_cli.proofs.laws.one_meaning.Goals as goal

pub returns : goal.returns
returns c = one_meaning c.one_answer.ensures.found c.one_verdict.ensures.one
