use Rattle.std.proofs.Common.{w32}
use Rattle.std.proofs.lemmas.Int.{wrapping_sub_is}
use Rattle.cow_world.proofs.gaps.difference.Goals as goal

pub returns : goal.returns
returns c = wrapping_sub_is w32 c.args.to c.args.from c.ranges.to c.ranges.from
