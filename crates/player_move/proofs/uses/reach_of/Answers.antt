use Rattle.std.proofs.Common.{w32, pos, rules}
use Rattle.std.proofs.lemmas.Int.{wrapping_mul_is}
use Rattle.player_move.proofs.uses.reach_of.Goals as goal

pub returns : goal.returns
returns c = wrapping_mul_is w32 c.args.part (pos 64) c.ranges.part (record { sfits = search rules })
