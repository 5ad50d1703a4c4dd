use Rattle.std.proofs.Common.{◌≡◌, drop}
use Rattle.player_move.specs.Uses.{first_end}
use Rattle.player_move.proofs.uses.first_end.Given as goal

abbrev pub invariant-loop-pair : goal.invariant-loop-pair
invariant-loop-pair l = first_end l.level l.world (drop l.pair-index l.met) ≡ first_end l.level l.world l.met
