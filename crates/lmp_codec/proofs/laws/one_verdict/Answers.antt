use Rattle.lmp_codec.proofs.Verdicts.{some_verdict, same_verdict}
use Rattle.lmp_codec.proofs.laws.one_verdict.Goals as goal

pub returns-clause-some : goal.returns-clause-some
returns-clause-some c = some_verdict

pub returns-clause-one : goal.returns-clause-one
returns-clause-one c = same_verdict
