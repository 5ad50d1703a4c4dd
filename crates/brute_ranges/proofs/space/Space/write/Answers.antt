use Rattle.std.proofs.Common.{◌∙◌, sym}
use Rattle.brute_ranges.specs.Space.{sequence_at}
use Rattle.brute_ranges.proofs.Sequences.{next_written}
use Rattle.brute_ranges.proofs.space.Space.write.Goals as goal

pub loop-n-preserved : goal.loop-n-preserved
loop-n-preserved c =
    next_written c.args.self.now.long c.args.tics.now c.loop-n.tics (sequence_at c.args.self.now c.args.k) c.args.from c.loop-n.n c.tic_at.result c.tic_at.ensures.tic
    (c.requires.length ∙ sym (c.depth-depth.ensures.each c.args.k c.requires.number)) c.loop-n.invariant
