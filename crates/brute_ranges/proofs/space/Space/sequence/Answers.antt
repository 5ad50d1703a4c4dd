use Rattle.std.proofs.Common.{◌∙◌}
use Rattle.brute_ranges.specs.Space.{sequence_at}
use Rattle.brute_ranges.proofs.Sequences.{next_tic}
use Rattle.brute_ranges.proofs.space.Space.sequence.Goals as goal

pub loop-i-preserved : goal.loop-i-preserved
loop-i-preserved c =
    c.in_ok-push.ensures.items ∙ next_tic c.args.self.now.long (sequence_at c.args.self.now c.args.k) c.loop-i.tics.items c.loop-i.i c.tic_at.result c.tic_at.ensures.tic c.loop-i.invariant
