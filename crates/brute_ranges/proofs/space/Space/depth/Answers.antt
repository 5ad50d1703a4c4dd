use Rattle.brute_ranges.proofs.Sequences.{each_length}
use Rattle.brute_ranges.proofs.space.Space.depth.Goals as goal

pub returns-clause-each : goal.returns-clause-each
returns-clause-each c = each_length c.self.inside.long c.args.self.now c.self.inside.wheels.items c.self.inside.count c.self.view_is c.self.invariant.0 c.self.invariant.1
