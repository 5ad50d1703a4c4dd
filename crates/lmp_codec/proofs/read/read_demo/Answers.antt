use Rattle.lmp_codec.proofs.Verdicts.{only_verdict}
use Rattle.lmp_codec.proofs.read.read_demo.Goals as goal

pub returns-clause-only : goal.returns-clause-only
returns-clause-only c = only_verdict _ _ c.demo_of.ensures
