use Rattle.std.proofs.Common.{arith}
use Rattle.std.proofs.lemmas.List.Elements.{recursion_from_All}
use Rattle.brute_ranges.specs.Tics.{IsSound}
use Rattle.brute_ranges.specs.Wheels.{ranges_of}
use Rattle.brute_ranges.proofs.Sequences.{counted, some_count, wheels_count}
use Rattle.brute_ranges.proofs.space.Space.count.Goals as goal

pub returns-clause-count : goal.returns-clause-count
returns-clause-count c = counted c.self.inside.long c.args.self.now c.self.inside.wheels.items c.self.inside.count c.self.view_is c.self.invariant.1

pub returns-clause-some_sequence : goal.returns-clause-some_sequence
returns-clause-some_sequence c =
    some_count c.self.inside.long c.self.inside.wheels.items c.self.inside.count c.self.invariant.1 (recursion_from_All (IsSound c.self.inside.long) (ranges_of c.self.inside.wheels.items) c.self.invariant.0.each)

pub returns-clause-few : goal.returns-clause-few
returns-clause-few c = omega (arith, wheels_count c.self.inside.long c.self.inside.wheels.items c.self.inside.count c.self.invariant.1, c.self.invariant.0.few)
