use Rattle.std.proofs.Common.{rules, ◌∙◌}
use Rattle.brute_targets.proofs.Holds.{met_by}
use Rattle.brute_targets.proofs.wants.Wants.met.Goals as goal

pub returns-clause-met : goal.returns-clause-met
returns-clause-met g c = search rules

pub returns-clause-meets : goal.returns-clause-meets
returns-clause-meets g c kept tics leads are =
    returns-clause-met g c ∙ met_by g.G.Game c.args.game.now kept c.args.world.now tics c.args.lines c.args.self.now leads are
