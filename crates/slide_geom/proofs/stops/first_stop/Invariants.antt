use Rattle.std.proofs.Common.{◌≡◌, drop}
use Rattle.slide_geom.specs.Best.{first_stop}
use Rattle.slide_geom.proofs.stops.first_stop.Given as goal

abbrev pub invariant-loop-pair : goal.invariant-loop-pair
invariant-loop-pair l = first_stop l.level l.world l.player (drop l.pair-index l.met) ≡ first_stop l.level l.world l.player l.met
