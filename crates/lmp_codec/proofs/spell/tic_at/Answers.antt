use Rattle.std.proofs.Common.{true, false}
use Rattle.lmp_codec.proofs.Progress.{tic_further}
use Rattle.lmp_codec.proofs.spell.tic_at.Goals as goal

pub returns-then-long-clause-spelled : goal.returns-then-long-clause-spelled
returns-then-long-clause-spelled c =
    tic_further c.args.text.now c.args.at c.args.long true c.long_tic.result c.if-long.true c.long_tic.ensures.spelled

pub returns-else-long-clause-spelled : goal.returns-else-long-clause-spelled
returns-else-long-clause-spelled c =
    tic_further c.args.text.now c.args.at c.args.long false c.short_tic.result c.if-long.false c.short_tic.ensures.spelled
