use Rattle.std.proofs.Common.{◌∙◌, ap, to_z-of_z, nat_abs}
use Rattle.build_script.proofs.TicLemmas.{made_tic}
use Rattle.build_script.proofs.judge.tic_of.Goals as goal

pub returns-clause-tic : goal.returns-clause-tic
returns-clause-tic c =
    c.of_numbers.ensures
    ∙ made_tic c.args.long c.args.forward c.args.side c.args.turn c.turn_of.result _ _
    c.requires.forward_least c.requires.forward_greatest c.requires.side_least c.requires.side_greatest c.requires.turn_least c.requires.turn_greatest
    c.turn_of.ensures.turn (ap nat_abs (to_z-of_z c.ranges.buttons))
