use Rattle.gallery_laws.proofs.Never.{gen_is_never_refused}
use Rattle.gallery_laws.proofs.session.gen_is_never_refused.Goals as goal

pub returns : goal.returns
returns c = gen_is_never_refused c.one_verdict.ensures.one
