use Rattle.brute_targets.proofs.LineBits.{has_bit-or}
use Rattle.brute_targets.proofs.bits.join_lines.Goals as goal

pub returns : goal.returns
returns c i = has_bit-or c.args.first c.args.more i
